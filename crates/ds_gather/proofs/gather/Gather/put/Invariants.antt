use Rattle.std.proofs.Common.{◌≡◌, ◌++◌, length, drop}
use Rattle.std.specs.Vec.Iter.{into_iter_items}
use Rattle.ds_gather.specs.Gathered.{arrivals}
use Rattle.ds_gather.proofs.gather.Gather.put.Given as goal

-- the answers so far came, and the items of the others are left, as are the others
abbrev pub invariant-replies : goal.invariant-replies
invariant-replies l =
    (l.self.wanted ≡ l.initial.self.wanted) × (l.self.got ≡ l.initial.self.got ++ arrivals l.initial.items l.yielded)
    × (l.items ≡ drop (length l.yielded) l.initial.items) × (l.yielded ++ into_iter_items l.reply-iterator ≡ l.fn.replies)
