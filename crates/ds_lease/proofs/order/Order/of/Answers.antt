use Rattle.std.proofs.Common.{subst, sym}
use Rattle.ds_lease.specs.Turns.{IsOrder}
use Rattle.ds_lease.proofs.TurnFacts.{of_replicas}
use Rattle.ds_lease.proofs.order.Order.of.Goals as goal

pub invariant_of-order : goal.invariant_of-order
invariant_of-order c =
    subst (λ xs. IsOrder (record { replicas = xs; waiting = c.places_of-2.result.items })) (sym c.places_of.ensures.places)
    (subst (λ xs. IsOrder (record { replicas = c.args.info.now.desc.nodes; waiting = xs })) (sym c.places_of-2.ensures.places)
    (of_replicas c.args.info.now.desc.nodes c.places_of.ensures.replicas))
