use Rattle.std.proofs.Common.{◌≡◌, false, Some, sym, ap, ◌∙◌, subst}
use Rattle.std.specs.List.{slice_get}
use Rattle.ds_desc.specs.Descs.{back_from, containing}
use Rattle.ds_rule.specs.Pieces.{Each}
use Rattle.ds_rule.specs.World.{holds_key}
use Rattle.ds_ranges.specs.Places.{IsFirst}
use Rattle.ds_ranges.proofs.Events.{back-none, last-told}
use Rattle.ds_ranges.proofs.ranges.Ranges.stale.Goals as goal

pub back-requires : goal.back-requires
back-requires c =
    let k = c.args.key.now in
    let first : IsFirst (holds_key k) c.self.inside.items.items c.in-Some.at = subst (λ z. IsFirst (holds_key k) z c.in-Some.at) c.as_slice.ensures.value c.in-Some.ensures.place in
    last-told k c.self.inside.items.items c.self.inside.lineage c.self.inside.places.items c.in-Some.at c.own_place-place.result c.self.invariant first
    (λ r at. subst (λ z. slice_get z r.info.desc.id ≡ Some c.own_place-place.result) c.as_slice-places.ensures.value (c.own_place-place.ensures r (subst (λ z. slice_get z c.in-Some.at ≡ Some r) (sym c.as_slice-ranges.ensures.value) at)))

pub returns-in-None : goal.returns-in-None
returns-in-None c =
    let none : Each (λ r. holds_key c.args.key.now r ≡ false) c.self.inside.items.items = subst (Each (λ r. holds_key c.args.key.now r ≡ false)) c.as_slice.ensures.value c.in-None.ensures.place in
    back-none c.args.key.now c.args.back c.self.inside.items.items c.self.inside.lineage c.self.inside.places.items c.self.invariant none ∙ ap (λ l. back_from c.args.back (containing c.args.key.now l.descs)) c.self.view_is
