use Rattle.std.proofs.Common.{◌≡◌, ◌++◌, map}
use Rattle.ds_gather.specs.Places.{reply_from}
use Rattle.ds_gather.proofs.places.replies_of.Given as goal

-- the replies of the places so far
abbrev pub invariant-places : goal.invariant-places
invariant-places l = l.replies ≡ record { items = l.initial.replies.items ++ map reply_from l.yielded; size = l.initial.replies.size }
