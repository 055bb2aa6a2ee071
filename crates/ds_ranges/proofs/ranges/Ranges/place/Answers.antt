use Rattle.std.proofs.Common.{◌≡◌, ◌<◌, true, false, Some, sym, ap, ◌∙◌, subst, length}
use Rattle.std.specs.List.{slice_get}
use Rattle.std.proofs.Math.ListN.{set}
use Rattle.ds_rule.specs.Pieces.{Each}
use Rattle.ds_rule.specs.Shifts.{can_move, move_in, move_to}
use Rattle.ds_rule.specs.World.{holds_key}
use Rattle.ds_ranges.specs.Layout.{Became, layout}
use Rattle.ds_ranges.specs.Places.{IsFirst}
use Rattle.ds_ranges.proofs.Events.{became-none, id-low, move-became, move-kept, move-sound, newest-at}
use Rattle.ds_ranges.proofs.ranges.Ranges.place.Goals as goal

pub returns-then-not-can_move-clause-ok : goal.returns-then-not-can_move-clause-ok
returns-then-not-can_move-clause-ok c =
    let k = c.args.key.now in
    let ns = c.args.nodes in
    let r = c.range_at-range.result.now in
    let first : IsFirst (holds_key k) c.self.inside.items.items c.in-Some.at = subst (λ z. IsFirst (holds_key k) z c.in-Some.at) c.as_slice.ensures.value c.in-Some.ensures.place in
    let at : slice_get c.self.inside.items.items c.in-Some.at ≡ Some r = subst (λ z. slice_get z c.in-Some.at ≡ Some r) c.as_slice-in-Some.ensures.value c.range_at-range.ensures in
    let can : can_move ns r ≡ false = sym c.can_move.ensures ∙ c.if-not-can_move.true in
    subst (λ z. Became (move_to k ns) z z) c.self.view_is (move-kept k ns c.self.inside.items.items c.self.inside.lineage c.in-Some.at r first at can)

pub follow_at-requires-clause-newest : goal.follow_at-requires-clause-newest
follow_at-requires-clause-newest c = λ r at.
    let there : slice_get c.self.inside.items.items c.in-Some.at ≡ Some r = subst (λ z. slice_get z c.in-Some.at ≡ Some r) c.as_slice-ranges.ensures.value at in
    newest-at c.self.inside.items.items c.self.inside.lineage c.self.inside.places.items c.in-Some.at c.own_place-place.result r c.self.invariant there
    (subst (λ z. slice_get z r.info.desc.id ≡ Some c.own_place-place.result) c.as_slice-places.ensures.value (c.own_place-place.ensures r at))

pub note-requires : goal.note-requires
note-requires c =
    let r = c.range_at-range.result.now in
    let at : slice_get c.self.inside.items.items c.in-Some.at ≡ Some r = subst (λ z. slice_get z c.in-Some.at ≡ Some r) c.as_slice-in-Some.ensures.value c.range_at-range.ensures in
    subst (λ n. n < length c.self.inside.places.items) (sym c.id_of-id.ensures) (id-low c.self.inside.items.items c.self.inside.lineage c.self.inside.places.items c.in-Some.at r c.self.invariant at)

pub invariant_of-self-in-Some : goal.invariant_of-self-in-Some
invariant_of-self-in-Some c =
    let k = c.args.key.now in
    let ns = c.args.nodes in
    let r = c.range_at-range.result.now in
    let places = c.self.inside.places.items in
    let first : IsFirst (holds_key k) c.self.inside.items.items c.in-Some.at = subst (λ z. IsFirst (holds_key k) z c.in-Some.at) c.as_slice.ensures.value c.in-Some.ensures.place in
    let at : slice_get c.self.inside.items.items c.in-Some.at ≡ Some r = subst (λ z. slice_get z c.in-Some.at ≡ Some r) c.as_slice-in-Some.ensures.value c.range_at-range.ensures in
    let again : slice_get c.as_slice-ranges.result.now c.in-Some.at ≡ Some r = subst (λ z. slice_get z c.in-Some.at ≡ Some r) (sym c.as_slice-ranges.ensures.value) at in
    let can : can_move ns r ≡ true = sym c.can_move.ensures ∙ c.if-not-can_move.false in
    move-sound k ns c.self.inside.items.items c.move_at.new.ranges.items c.self.inside.lineage c.follow_at.new.lineage places c.note.new.places.items c.in-Some.at r c.len.ensures.replicas c.self.invariant first at can
    (c.move_at.ensures r at) (c.in_ok-follow_at-in-Some.ensures.ok r again)
    (c.note.ensures ∙ ap (λ n. set places n c.len-count.result) c.id_of-id.ensures ∙ ap (λ n. set places r.info.desc.id n) c.len-count.ensures)

pub returns-in_ok-follow_at-in-Some-clause-ok : goal.returns-in_ok-follow_at-in-Some-clause-ok
returns-in_ok-follow_at-in-Some-clause-ok c =
    let k = c.args.key.now in
    let ns = c.args.nodes in
    let r = c.range_at-range.result.now in
    let first : IsFirst (holds_key k) c.self.inside.items.items c.in-Some.at = subst (λ z. IsFirst (holds_key k) z c.in-Some.at) c.as_slice.ensures.value c.in-Some.ensures.place in
    let at : slice_get c.self.inside.items.items c.in-Some.at ≡ Some r = subst (λ z. slice_get z c.in-Some.at ≡ Some r) c.as_slice-in-Some.ensures.value c.range_at-range.ensures in
    let again : slice_get c.as_slice-ranges.result.now c.in-Some.at ≡ Some r = subst (λ z. slice_get z c.in-Some.at ≡ Some r) (sym c.as_slice-ranges.ensures.value) at in
    let can : can_move ns r ≡ true = sym c.can_move.ensures ∙ c.if-not-can_move.false in
    subst (λ z. Became (move_to k ns) z (layout c.move_at.new.ranges.items c.follow_at.new.lineage)) c.self.view_is
    (move-became k ns c.self.inside.items.items c.move_at.new.ranges.items c.self.inside.lineage c.follow_at.new.lineage c.in-Some.at r first at can (c.move_at.ensures r at) (c.in_ok-follow_at-in-Some.ensures.ok r again))

pub returns-in-None-clause-ok : goal.returns-in-None-clause-ok
returns-in-None-clause-ok c =
    let k = c.args.key.now in
    let ns = c.args.nodes in
    let none : Each (λ r. holds_key k r ≡ false) c.self.inside.items.items = subst (Each (λ r. holds_key k r ≡ false)) c.as_slice.ensures.value c.in-None.ensures.place in
    subst (λ z. Became (move_to k ns) z z) c.self.view_is (became-none (move_in ns) k c.self.inside.items.items c.self.inside.lineage none)
