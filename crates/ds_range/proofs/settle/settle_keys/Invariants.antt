use Rattle.std.proofs.Common.{◌≡◌, take}
use Rattle.ds_range.specs.Keeps.{restored, settled_at}
use Rattle.ds_range.proofs.settle.settle_keys.Given as goal

-- the keys so far were settled, and all can be taken back
abbrev pub invariant-keys : goal.invariant-keys
invariant-keys l = record {
  made : l.cells.entries ≡ settled_at l.txn.0 l.commit (take l.key-index l.keys) l.initial.cells.entries;
  back : restored l.undo l.cells.entries ≡ restored l.initial.undo l.initial.cells.entries;
}
