use Rattle.std.proofs.Common.{◌≡◌, map, take, length}
use Rattle.ds_kind.specs.Flags.{fit}
use Rattle.ds_kind.proofs.table.rows.Given as goal

abbrev pub invariant-loop-i : goal.invariant-loop-i
invariant-loop-i g l = (length l.rows ≡ l.i-end) × (length l.flags ≡ l.i-end) × (take l.i l.rows ≡ map (λ a. map (fit a) l.flags) (take l.i l.flags))
