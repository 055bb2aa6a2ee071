use Rattle.std.proofs.Common.{◌≡◌, take}
use Rattle.ds_kind.specs.Left.{taken_by}
use Rattle.ds_kind.proofs.left.taken_by.Given as goal

-- what the replies so far hold
abbrev pub invariant-replies : goal.invariant-replies
invariant-replies l = l.taken ≡ taken_by (take l.reply-index l.reply-items)
