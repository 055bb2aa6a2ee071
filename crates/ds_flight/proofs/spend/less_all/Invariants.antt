use Rattle.std.proofs.Common.{◌≡◌, ◌-◌, take}
use Rattle.ds_kind.specs.Left.{taken_by}
use Rattle.ds_flight.proofs.spend.less_all.Given as goal

-- what the replies so far hold is taken
abbrev pub invariant-replies : goal.invariant-replies
invariant-replies l = l.left ≡ l.rest - taken_by (take l.reply-index l.replies)
