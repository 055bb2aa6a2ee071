use Rattle.std.proofs.Common.{rules, ◌≡◌, true, Some, subst, sym}
use Rattle.ds_base.specs.Order.{key_lt}
use Rattle.ds_limit.specs.Rests.{is_inside}
use Rattle.ds_limit.proofs.RestFacts.{below_end}
use Rattle.ds_limit.proofs.rest.forward.Goals as goal

pub invariant_of-result : goal.invariant_of-result
invariant_of-result c =
    let inside : is_inside (record { start = c.span.inside.start; end = c.span.inside.end }) (Some (record { start = c.stopped.inside.start; end = c.stopped.inside.end })) ≡ true = search rules in
    let same : c.in_ok-copy.field-0 ≡ c.stopped.inside.start = search rules in
    subst (λ k. key_lt k c.span.inside.end ≡ true) (sym same) (below_end (record { start = c.span.inside.start; end = c.span.inside.end }) (record { start = c.stopped.inside.start; end = c.stopped.inside.end }) inside c.stopped.invariant)
