use Rattle.std.proofs.Common.{rules, ◌≡◌, ◌∷◌}
use Rattle.std.specs.Vec.Iter.{into_iter_items}
use Rattle.ds_gather.proofs.Joining.{left_more, rows_fit, rows_more, first_more}
use Rattle.ds_gather.proofs.place.join_rows.Goals as goal

pub add_rows-requires : goal.add_rows-requires
add_rows-requires c =
    let next : into_iter_items c.arrivals.arrival-iterator ≡ c.in-Some.arrival ∷ into_iter_items c.next.new.self = search rules in
    rows_fit c.args.rows.items c.args.rows.size c.arrivals.rows c.arrivals.yielded (into_iter_items c.next.new.self) c.args.arrivals.items (into_iter_items c.arrivals.arrival-iterator) c.in-Some.arrival c.arrivals.invariant.0 next c.arrivals.invariant.2 c.requires

pub arrivals-preserved : goal.arrivals-preserved
arrivals-preserved c =
    let next : into_iter_items c.arrivals.arrival-iterator ≡ c.in-Some.arrival ∷ into_iter_items c.next.new.self = search rules in (
      rows_more c.args.rows.items c.args.rows.size c.arrivals.rows c.add_rows.new.rows c.arrivals.yielded c.in-Some.arrival c.arrivals.invariant.0 c.add_rows.ensures,
      first_more (λ a. a.reply.resume) c.arrivals.yielded c.in-Some.arrival c.arrivals.resume c.first_of-resume.result c.arrivals.invariant.1 c.first_of-resume.ensures,
      left_more c.arrivals.yielded (into_iter_items c.next.new.self) c.args.arrivals.items (into_iter_items c.arrivals.arrival-iterator) c.in-Some.arrival next c.arrivals.invariant.2,
    )
