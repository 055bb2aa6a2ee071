use Rattle.std.proofs.Common.{◌≡◌, ◌≤◌, take}
use Rattle.ds_flight.specs.Places.{waiting}
use Rattle.ds_flight.proofs.places.routed_count.Given as goal

-- the routed ones so far
abbrev pub invariant-tasks : goal.invariant-tasks
invariant-tasks l = (l.count ≡ waiting (take l.task-index l.work)) × (l.count ≤ l.task-index)
