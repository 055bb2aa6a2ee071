use Rattle.std.proofs.Common.{ap, ◌∙◌, subst, sym}
use Rattle.ds_sim.specs.State.{state_of, world_of}
use Rattle.ds_sim.specs.Made.{CanBeMade}
use Rattle.ds_sim.proofs.Making.{made-so, move-made, passed-less, passing, same-state}
use Rattle.ds_sim.proofs.Sending.{stays_same}
use Rattle.ds_sim.proofs.sim.Sim.make_next.Goals as goal

pub make-requires : goal.make-requires
make-requires c = move-made _ c.next-event.result.now c.next-event.ensures.move

pub returns-clause-stays : goal.returns-clause-stays
returns-clause-stays c =
    let s = c.args.self.now in
    made-so s.ranges c.make.new.ranges s.armed.items c.make.new.armed.items s.records c.make.new.records s.block c.pass.new.self s.refused s.picks.items c.next-event.result.now c.next-event.ensures c.in_ok-make.ensures.ok c.pass.ensures

pub returns-clause-less : goal.returns-clause-less
returns-clause-less c = passed-less c.args.self.now.block c.pass.new.self c.next-event.result.now c.next-event.ensures c.pass.ensures

pub returns-in_err-make-clause-stays : goal.returns-in_err-make-clause-stays
returns-in_err-make-clause-stays c =
    let s = c.args.self.now in
    stays_same (state_of s) _ (same-state s.ranges c.make.new.ranges s.armed.items c.make.new.armed.items s.records c.make.new.records s.block s.refused s.picks.items c.in_err-make.ensures.err_ranges c.in_err-make.ensures.err_armed c.in_err-make.ensures.err_records)
