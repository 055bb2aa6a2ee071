use Rattle.std.proofs.Common.{◌≡◌, take}
use Rattle.ds_rule.proofs.record.copies_of.Given as goal

-- what has been copied so far
abbrev pub invariant-loop-item : goal.invariant-loop-item
invariant-loop-item l = l.copies.items ≡ take l.item-index l.items
