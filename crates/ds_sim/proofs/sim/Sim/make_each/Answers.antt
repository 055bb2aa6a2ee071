use Rattle.std.proofs.Common.{◌≡◌, Some, slice_get, refl}
use Rattle.std.proofs.lemmas.Option.{slice_get_read}
use Rattle.ds_sim.specs.Made.{CanBeMade}
use Rattle.ds_sim.specs.State.{state_of}
use Rattle.ds_sim.proofs.Delivering.{on-err}
use Rattle.ds_sim.proofs.Ending.{each-at, making-all, making-first, making-fits, making-more, making-some}
use Rattle.ds_sim.proofs.sim.Sim.make_each.Goals as goal

pub each-init : goal.each-init
each-init c = making-first c.args.events.now (state_of c.args.self.now)

pub event-requires-clause-few : goal.event-requires-clause-few
event-requires-clause-few c = making-fits c.args.events.now c.each.timed-index (state_of c.args.self.now) (state_of c.each.self) c.each-test.true c.requires.few c.each.invariant

pub event-requires-clause-made : goal.event-requires-clause-made
event-requires-clause-made c =
    each-at (λ t. CanBeMade t.event) c.args.events.now c.each.timed-index c.timed-item.result (slice_get_read c.args.events.now _ c.each.timed-index c.timed-item.result refl c.each-test.true c.timed-item.is) c.requires.made

pub each-preserved : goal.each-preserved
each-preserved c =
    let s = c.each.self in
    making-more c.args.events.now c.each.timed-index c.timed-item.result (state_of c.args.self.now) (state_of c.event.new.self) s.ranges s.armed.items s.records s.block s.refused s.picks.items
    (slice_get_read c.args.events.now _ c.each.timed-index c.timed-item.result refl c.each-test.true c.timed-item.is) c.in_ok-event.ensures.ok c.each.invariant

pub returns-clause-ok : goal.returns-clause-ok
returns-clause-ok c = making-all c.args.events.now c.each.timed-index (state_of c.args.self.now) (state_of c.each.self) c.each-test.false c.each.invariant

pub returns-in_err-event-clause-err : goal.returns-in_err-event-clause-err
returns-in_err-event-clause-err c = on-err c.from_residual.result (making-some c.args.events.now c.each.timed-index (state_of c.args.self.now) (state_of c.each.self) (state_of c.event.new.self) c.in_err-event.ensures.err c.each.invariant)
