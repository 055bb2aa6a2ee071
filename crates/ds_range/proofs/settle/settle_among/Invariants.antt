use Rattle.std.proofs.Common.{◌≡◌, take}
use Rattle.ds_range.specs.Covers.{settled_among}
use Rattle.ds_range.proofs.settle.settle_among.Given as goal

-- the keys so far were settled
abbrev pub invariant-keys : goal.invariant-keys
invariant-keys l = l.cells.entries ≡ settled_among l.txn.0 l.commit (take l.key-index l.keys) l.initial.cells.entries
