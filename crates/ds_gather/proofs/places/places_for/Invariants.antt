use Rattle.std.proofs.Common.{◌≡◌, map, take}
use Rattle.ds_gather.specs.Places.{place_for}
use Rattle.ds_gather.proofs.places.places_for.Given as goal

-- a place for each item so far
abbrev pub invariant-items : goal.invariant-items
invariant-items l = l.places.items ≡ map place_for (take l.item-index l.items)
