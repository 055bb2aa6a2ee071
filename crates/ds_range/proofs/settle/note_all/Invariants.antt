use Rattle.std.proofs.Common.{◌++◌, drop}
use Rattle.ds_range.specs.Covers.{Covers}
use Rattle.ds_range.proofs.settle.note_all.Given as goal

-- the keys still to come, with those noted
abbrev pub invariant-keys : goal.invariant-keys
invariant-keys l = Covers (l.keys ++ l.initial.written) l.cells.entries → Covers (drop l.key-index l.keys ++ l.written) l.cells.entries
