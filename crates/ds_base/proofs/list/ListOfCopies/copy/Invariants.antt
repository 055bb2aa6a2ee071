use Rattle.std.proofs.Common.{◌≡◌, take}
use Rattle.ds_base.proofs.list.ListOfCopies.copy.Given as goal

-- what has been copied so far
abbrev pub invariant-loop-item : goal.invariant-loop-item
invariant-loop-item g l = l.items.items ≡ take l.item-index l.self
