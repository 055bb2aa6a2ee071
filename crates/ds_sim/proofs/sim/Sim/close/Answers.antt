use Rattle.ds_sim.proofs.Closing.{closes-again}
use Rattle.ds_sim.proofs.Delivering.{on-err}
use Rattle.ds_sim.proofs.sim.Sim.close.Goals as goal

pub returns-in_err-settle_last-clause-err : goal.returns-in_err-settle_last-clause-err
returns-in_err-settle_last-clause-err c =
    let s = c.args.self.now in
    on-err c.from_residual.result (closes-again s.ranges c.settle_last.new.ranges s.armed.items s.records s.block s.refused s.picks.items c.settle_last.ensures.again c.settle_last.ensures.descs)
