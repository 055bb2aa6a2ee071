use Rattle.std.proofs.Common.{◌≡◌, map, take, length}
use Rattle.ds_kind.specs.Flags.{fit}
use Rattle.ds_kind.proofs.table.row.Given as goal

abbrev pub invariant-loop-j : goal.invariant-loop-j
invariant-loop-j g l = (length l.row ≡ l.j-end) × (length l.flags ≡ l.j-end) × (take l.j l.row ≡ map (fit l.a) (take l.j l.flags))
