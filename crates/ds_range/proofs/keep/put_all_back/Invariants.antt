use Rattle.std.proofs.Common.{◌≡◌, length}
use Rattle.ds_range.specs.Keeps.{restored}
use Rattle.ds_range.proofs.keep.put_all_back.Given as goal

-- what is still to be put back gives the contents wanted
abbrev pub invariant-kept : goal.invariant-kept
invariant-kept l = restored l.kept.items l.cells.entries ≡ restored l.initial.kept.items l.initial.cells.entries

abbrev pub decreases-kept : goal.decreases-kept
decreases-kept l = length l.kept.items
