use Rattle.std.proofs.Common.{◌≡◌, drop}
use Rattle.ds_serve.specs.Ends.{first_end}
use Rattle.ds_serve.proofs.ends.first_end.Given as goal

-- the first end of all is the first of those still to come
abbrev pub invariant-ends : goal.invariant-ends
invariant-ends l = first_end (drop l.i l.items) (drop l.i l.replies) ≡ first_end l.items l.replies
