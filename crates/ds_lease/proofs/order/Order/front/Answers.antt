use Rattle.std.proofs.Common.{rules, ◌≡◌, ◌<◌, ◌∷◌, length, true, lit<, arith, subst, sym, ap, ◌∙◌}
use Rattle.ds_lease.specs.Turns.{IsOrder, is_among}
use Rattle.ds_lease.proofs.TurnFacts.{has_room, with_front}
use Rattle.ds_lease.proofs.order.Order.front.Goals as goal

pub insert-requires : goal.insert-requires
insert-requires c =
    let replica : is_among c.args.node c.self.inside.replicas.items ≡ true = search rules in
    let room : length c.take_out.new.nodes.items < 7 = subst (λ xs. length xs < 7) (sym c.take_out.ensures) (has_room c.args.node c.self.inside.replicas.items c.self.inside.waiting.items c.self.invariant replica) in
    (lit< tt, (omega arith, room))

pub invariant_of-self : goal.invariant_of-self
invariant_of-self c =
    let replica : is_among c.args.node c.self.inside.replicas.items ≡ true = search rules in
    subst (λ xs. IsOrder (record { replicas = c.self.inside.replicas.items; waiting = xs }))
    (sym (c.insert.ensures.items ∙ ap (λ xs. c.args.node ∷ xs) c.take_out.ensures))
    (with_front c.args.node c.self.inside.replicas.items c.self.inside.waiting.items c.self.invariant replica)
