use Rattle.std.proofs.Common.{◌≡◌, take}
use Rattle.ds_ranges.proofs.copy.copy_places.Given as goal

-- what has been copied so far
abbrev pub invariant-each : goal.invariant-each
invariant-each l = l.made.items ≡ take l.place-index l.places
