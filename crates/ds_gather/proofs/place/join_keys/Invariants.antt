use Rattle.std.proofs.Common.{◌≡◌, ◌++◌}
use Rattle.std.specs.Vec.Iter.{into_iter_items}
use Rattle.ds_gather.specs.Gathered.{all_keys, resume_at}
use Rattle.ds_gather.proofs.place.join_keys.Given as goal

-- the keys so far, the first resume span so far, and what is still to come
abbrev pub invariant-arrivals : goal.invariant-arrivals
invariant-arrivals l =
    (l.keys ≡ record { items = l.initial.keys.items ++ all_keys l.yielded; size = l.initial.keys.size }) × (l.resume ≡ resume_at l.yielded)
    × (l.yielded ++ into_iter_items l.arrival-iterator ≡ l.fn.arrivals.items)
