use Rattle.std.proofs.Common.{◌≡◌, drop}
use Rattle.std.specs.List.{slice_get}
use Rattle.ds_flight.specs.Places.{nth_routed, routed_from}
use Rattle.ds_flight.proofs.places.nth_routed.Given as goal

-- it is the one so far on among those that are still to be looked at
abbrev pub invariant-tasks : goal.invariant-tasks
invariant-tasks l = slice_get (routed_from l.at (drop l.at l.work)) l.left ≡ nth_routed l.n l.work
