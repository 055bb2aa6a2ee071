use Rattle.std.proofs.Common.{◌≡◌, take, drop}
use Rattle.ds_kind.specs.Groups.{first_after, first_where}
use Rattle.ds_legal.specs.Rules.{is_overtaken}
use Rattle.ds_legal.proofs.firsts.first_overtaken.Given as goal

-- none before i is overtaken
abbrev pub invariant-loop-i : goal.invariant-loop-i
invariant-loop-i l = first_after is_overtaken (take l.i l.requests) (drop l.i l.requests) ≡ first_where is_overtaken l.requests
