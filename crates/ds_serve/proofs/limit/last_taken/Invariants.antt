use Rattle.std.proofs.Common.{◌≡◌, length}
use Rattle.std.specs.List.{slice_get}
use Rattle.ds_rule.specs.Limited.{in_turn, taken_keys, last_taken}
use Rattle.ds_serve.proofs.Limits.{taking}
use Rattle.ds_serve.proofs.limit.last_taken.Given as goal

-- the key that is wanted lies among the cells still to come, behind so many that take one
abbrev pub invariant-rest : goal.invariant-rest
invariant-rest l = slice_get (taking l.request l.at (in_turn l.down l.rest)) l.left ≡ last_taken l.more (taken_keys l.request l.at l.cells.entries)

abbrev pub decreases-rest : goal.decreases-rest
decreases-rest l = length l.rest
