use Rattle.std.proofs.Common.{◌+◌, ◌≤◌}
use Rattle.ds_flight.specs.Causes.{GoesOn}
use Rattle.ds_flight.specs.Fills.{tries_left}
use Rattle.ds_flight.specs.Flown.{flight}
use Rattle.ds_flight.specs.Picked.{most_of}
use Rattle.ds_flight.specs.Places.{waiting}
use Rattle.ds_flight.specs.Searches.{course}
use Rattle.ds_flight.specs.Works.{work_left}
use Rattle.ds_flight.proofs.Aloft.{IsAloft}
use Rattle.ds_flight.proofs.flight.fly.Given as goal

abbrev pub invariant-flight : goal.invariant-flight
invariant-flight g l = record {
  aloft : IsAloft (flight l.part l.head l.rule.whole) l.fn.left (most_of l.fn.left) (course (g.W.Wire.state l.fn.wire) l.fn.cache.entries l.fn.attempts) (course (g.W.Wire.state l.wire) l.cache.entries l.attempts) l.work.items l.gather l.remaining;
  goes : GoesOn l.attempts;
  few : waiting l.work.items ≤ most_of l.fn.left;
}

-- each round loses a try or does something
abbrev pub decreases-flight : goal.decreases-flight
decreases-flight g l = tries_left l.attempts + work_left l.work.items
