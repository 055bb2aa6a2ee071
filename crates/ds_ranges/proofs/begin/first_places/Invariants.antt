use Rattle.std.proofs.Common.{◌≡◌, ◌∷◌}
use Rattle.std.specs.List.{range_with_len}
use Rattle.ds_ranges.proofs.begin.first_places.Given as goal

abbrev pub invariant-each : goal.invariant-each
invariant-each l = l.places.items ≡ 0 ∷ range_with_len 0 l.place
