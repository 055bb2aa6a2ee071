use Rattle.std.proofs.Common.{ap, ◌∙◌}
use Rattle.ds_sim.proofs.Delivering.{on-err}
use Rattle.ds_sim.proofs.Ending.{ended-short}
use Rattle.ds_sim.proofs.sim.Sim.end_block.Goals as goal

pub returns-in_err-make_each-clause-err : goal.returns-in_err-make_each-clause-err
returns-in_err-make_each-clause-err c =
    let s = c.args.self.now in
    on-err c.from_residual.result
    (ended-short s.ranges s.armed.items s.records s.block c.finish-over.new.self s.refused s.picks.items c.new.result.items c.coming.result.now _ c.finish-over.ensures.none c.new.ensures.items (c.coming.ensures.items ∙ ap (λ u. u.coming) c.finish-over.ensures.over) c.in_err-make_each.ensures.err)
