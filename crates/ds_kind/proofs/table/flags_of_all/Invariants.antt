use Rattle.std.proofs.Common.{◌≡◌, map, take, length}
use Rattle.ds_kind.specs.Flags.{flags_of}
use Rattle.ds_kind.proofs.table.flags_of_all.Given as goal

-- the flags of the kinds passed so far
abbrev pub invariant-loop-i : goal.invariant-loop-i
invariant-loop-i g l = (length l.flags ≡ l.i-end) × (length l.kinds ≡ l.i-end) × (take l.i l.flags ≡ map flags_of (take l.i l.kinds))
