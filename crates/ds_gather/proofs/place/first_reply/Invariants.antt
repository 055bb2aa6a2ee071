use Rattle.std.proofs.Common.{◌≡◌}
use Rattle.ds_gather.specs.Gathered.{body_at, resume_at}
use Rattle.ds_gather.proofs.place.first_reply.Given as goal

-- the first body and the first resume span so far
abbrev pub invariant-arrivals : goal.invariant-arrivals
invariant-arrivals l = (l.body ≡ body_at l.yielded) × (l.resume ≡ resume_at l.yielded)
