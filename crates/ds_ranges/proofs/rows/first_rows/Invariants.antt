use Rattle.std.proofs.Common.{◌≡◌, map, take}
use Rattle.ds_rule.specs.World.{in_order}
use Rattle.ds_ranges.proofs.rows.first_rows.Given as goal

abbrev pub invariant-rows : goal.invariant-rows
invariant-rows l = l.rows ≡ map (λ r. r.info) (take l.i (in_order l.dir l.ranges))
