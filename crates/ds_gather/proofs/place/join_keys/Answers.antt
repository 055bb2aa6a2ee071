use Rattle.std.proofs.Common.{rules, ◌≡◌, ◌∷◌}
use Rattle.std.specs.Vec.Iter.{into_iter_items}
use Rattle.ds_gather.proofs.Joining.{left_more, keys_fit, keys_more, first_more}
use Rattle.ds_gather.proofs.place.join_keys.Goals as goal

pub add_keys-requires : goal.add_keys-requires
add_keys-requires c =
    let next : into_iter_items c.arrivals.arrival-iterator ≡ c.in-Some.arrival ∷ into_iter_items c.next.new.self = search rules in
    keys_fit c.args.keys.items c.args.keys.size c.arrivals.keys c.arrivals.yielded (into_iter_items c.next.new.self) c.args.arrivals.items (into_iter_items c.arrivals.arrival-iterator) c.in-Some.arrival c.arrivals.invariant.0 next c.arrivals.invariant.2 c.requires

pub arrivals-preserved : goal.arrivals-preserved
arrivals-preserved c =
    let next : into_iter_items c.arrivals.arrival-iterator ≡ c.in-Some.arrival ∷ into_iter_items c.next.new.self = search rules in (
      keys_more c.args.keys.items c.args.keys.size c.arrivals.keys c.add_keys.new.keys c.arrivals.yielded c.in-Some.arrival c.arrivals.invariant.0 c.add_keys.ensures,
      first_more (λ a. a.reply.resume) c.arrivals.yielded c.in-Some.arrival c.arrivals.resume c.first_of-resume.result c.arrivals.invariant.1 c.first_of-resume.ensures,
      left_more c.arrivals.yielded (into_iter_items c.next.new.self) c.args.arrivals.items (into_iter_items c.arrivals.arrival-iterator) c.in-Some.arrival next c.arrivals.invariant.2,
    )
