use Rattle.std.proofs.Common.{◌≡◌, true, sym, subst}
use Rattle.ds_base.specs.Order.{key_lt, min_key}
use Rattle.ds_send.proofs.WholeSpan.{wider-proper}
use Rattle.ds_send.proofs.whole.wider.Goals as goal

pub invariant_of-result : goal.invariant_of-result
invariant_of-result c =
    let a = c.span.inside in
    let b = c.other.inside in
    subst (λ k. key_lt k c.greater.result ≡ true) (sym c.lesser.ensures)
    (subst (λ k. key_lt (min_key a.start b.start) k ≡ true) (sym c.greater.ensures) (wider-proper a.start a.end b.start b.end c.span.invariant))
