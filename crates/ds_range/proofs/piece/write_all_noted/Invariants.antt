use Rattle.std.proofs.Common.{◌≡◌, ◌++◌, map}
use Rattle.ds_range.specs.Asks.{wrote_each}
use Rattle.ds_range.specs.Keeps.{restored}
use Rattle.ds_range.proofs.piece.write_all_noted.Given as goal

-- the writes so far were made at these keys, and can be taken back
abbrev pub invariant-writes : goal.invariant-writes
invariant-writes l = record {
  made : l.cells.entries ≡ wrote_each l.at l.yielded l.initial.cells.entries;
  keys : l.keys ≡ l.initial.keys ++ map (λ p. p.0) l.yielded;
  back : restored l.undo l.cells.entries ≡ restored l.initial.undo l.initial.cells.entries;
}
