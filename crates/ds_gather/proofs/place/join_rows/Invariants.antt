use Rattle.std.proofs.Common.{◌≡◌, ◌++◌}
use Rattle.std.specs.Vec.Iter.{into_iter_items}
use Rattle.ds_gather.specs.Gathered.{all_rows, resume_at}
use Rattle.ds_gather.proofs.place.join_rows.Given as goal

-- the rows so far, the first resume span so far, and what is still to come
abbrev pub invariant-arrivals : goal.invariant-arrivals
invariant-arrivals l =
    (l.rows ≡ record { items = l.initial.rows.items ++ all_rows l.yielded; size = l.initial.rows.size }) × (l.resume ≡ resume_at l.yielded)
    × (l.yielded ++ into_iter_items l.arrival-iterator ≡ l.fn.arrivals.items)
