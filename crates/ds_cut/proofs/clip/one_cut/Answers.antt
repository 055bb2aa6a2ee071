use Rattle.std.proofs.Common.{◌≡◌, ◌∷◌, true, [], sym, ap, subst, ◌∙◌}
use Rattle.std.specs.Option.{option_copied}
use Rattle.ds_base.specs.Order.{key_le}
use Rattle.ds_kind.specs.Reach.{extent_of}
use Rattle.ds_cover.proofs.Clipping.{point-in, point-out, below-le, above-le}
use Rattle.ds_cut.proofs.clip.one_cut.Goals as goal

pub item_cut-requires-clause-from : goal.item_cut-requires-clause-from
item_cut-requires-clause-from c =
    subst (λ reach. key_le (extent_of reach).start c.raised-start.result.now ≡ true) c.in-Between.ensures
    (subst (λ k. key_le c.in-Between.start.now k ≡ true) (sym c.raised-start.ensures) (below-le (option_copied c.args.low) c.in-Between.start.now))

pub item_cut-requires-clause-to : goal.item_cut-requires-clause-to
item_cut-requires-clause-to c =
    subst (λ reach. key_le c.lowered-end.result.now (extent_of reach).end ≡ true) c.in-Between.ensures
    (subst (λ k. key_le k c.in-Between.end.now ≡ true) (sym c.lowered-end.ensures) (above-le (option_copied c.args.high) c.in-Between.end.now))

pub returns-in_ok-copy-in-Point : goal.returns-in_ok-copy-in-Point
returns-in_ok-copy-in-Point c =
    ap (λ z. z ∷ []) c.in_ok-copy-in-Point.ensures
    ∙ point-in (option_copied c.args.low) (option_copied c.args.high) c.in-Point.key.now c.args.item.now c.in-Point.ensures (sym c.is_between.ensures ∙ c.if-is_between.true)

pub returns-else-is_between : goal.returns-else-is_between
returns-else-is_between c =
    point-out (option_copied c.args.low) (option_copied c.args.high) c.in-Point.key.now c.args.item.now c.in-Point.ensures (sym c.is_between.ensures ∙ c.if-is_between.false)
