use Rattle.std.proofs.Common.{◌≡◌, ◌<◌, ◌≤◌, ◌+◌, true, false, suc, Some, sym, ap, ◌∙◌, subst, length, arith}
use Rattle.std.specs.List.{slice_get}
use Rattle.std.proofs.Math.ListN.{set}
use Rattle.std.proofs.lemmas.Option.{slice_get_past}
use Rattle.ds_base.proofs.SmallFacts.{some_same}
use Rattle.ds_rule.specs.Pieces.{Each}
use Rattle.ds_rule.specs.Shifts.{can_join, merge_at, merge_in}
use Rattle.ds_rule.specs.World.{holds_key}
use Rattle.ds_ranges.specs.Layout.{Became, layout}
use Rattle.ds_ranges.specs.Places.{IsFirst}
use Rattle.ds_ranges.proofs.Events.{Entry, became-none, entry, id-low, merge-became, merge-kept, merge-last, merge-sound, newest-at}
use Rattle.ds_ranges.proofs.ranges.Ranges.merge.Goals as goal

pub returns-then-next-ranges-clause-ok : goal.returns-then-next-ranges-clause-ok
returns-then-next-ranges-clause-ok c =
    let k = c.args.key.now in
    let i = c.in-Some.at in
    let rs = c.self.inside.items.items in
    let first : IsFirst (holds_key k) c.self.inside.items.items c.in-Some.at = subst (λ z. IsFirst (holds_key k) z i) c.as_slice.ensures.value c.in-Some.ensures.place in
    let low : c.in-Some.at < length c.self.inside.items.items = subst (λ z. i < length z) c.as_slice.ensures.value c.in-Some.ensures.within in
    let e : Entry rs i = entry rs i low in
    let same : length c.as_slice-ranges.result.now ≡ length c.self.inside.items.items = ap length c.as_slice-ranges.ensures.value in
    let past : length c.self.inside.items.items ≤ suc c.in-Some.at = omega arith in
    subst (λ z. Became (merge_at k) z z) c.self.view_is (merge-last k rs c.self.inside.lineage i e.one first e.at (slice_get_past rs (suc i) past))

pub returns-then-not-can_join-clause-ok : goal.returns-then-not-can_join-clause-ok
returns-then-not-can_join-clause-ok c =
    let k = c.args.key.now in
    let i = c.in-Some.at in
    let r = c.range_at-left.result.now in
    let s = c.next_to-right.result.now in
    let first : IsFirst (holds_key k) c.self.inside.items.items c.in-Some.at = subst (λ z. IsFirst (holds_key k) z i) c.as_slice.ensures.value c.in-Some.ensures.place in
    let at : slice_get c.self.inside.items.items c.in-Some.at ≡ Some r = subst (λ z. slice_get z i ≡ Some r) c.as_slice-ranges.ensures.value c.range_at-left.ensures in
    let next : slice_get c.self.inside.items.items (suc c.in-Some.at) ≡ Some s = subst (λ z. slice_get z (suc i) ≡ Some s) c.as_slice-ranges.ensures.value c.next_to-right.ensures in
    let can : can_join r s ≡ false = sym c.can_join.ensures ∙ c.if-not-can_join.true in
    subst (λ z. Became (merge_at k) z z) c.self.view_is (merge-kept k c.self.inside.items.items c.self.inside.lineage i r s first at next can)

pub merge_both-requires-clause-newest : goal.merge_both-requires-clause-newest
merge_both-requires-clause-newest c = λ r at.
    newest-at c.self.inside.items.items c.self.inside.lineage c.self.inside.places.items c.in-Some.at c.own_place-first.result r c.self.invariant at
    (subst (λ z. slice_get z r.info.desc.id ≡ Some c.own_place-first.result) c.as_slice-places.ensures.value (c.own_place-first.ensures r (subst (λ z. slice_get z c.in-Some.at ≡ Some r) (sym c.as_slice-ranges.ensures.value) at)))

pub merge_both-requires-clause-next : goal.merge_both-requires-clause-next
merge_both-requires-clause-next c = λ s at.
    let more : suc c.in-Some.at ≡ c.in-Some.at + 1 = omega arith in
    newest-at c.self.inside.items.items c.self.inside.lineage c.self.inside.places.items (suc c.in-Some.at) c.own_place-second.result s c.self.invariant at
    (subst (λ z. slice_get z s.info.desc.id ≡ Some c.own_place-second.result) c.as_slice-places.ensures.value
    (c.own_place-second.ensures s (subst (λ n. slice_get c.as_slice-ranges.result.now n ≡ Some s) more (subst (λ z. slice_get z (suc c.in-Some.at) ≡ Some s) (sym c.as_slice-ranges.ensures.value) at))))

pub merge_both-requires-clause-can : goal.merge_both-requires-clause-can
merge_both-requires-clause-can c = λ q t there beside.
    let i = c.in-Some.at in
    let r = c.range_at-left.result.now in
    let s = c.next_to-right.result.now in
    let at : slice_get c.self.inside.items.items c.in-Some.at ≡ Some r = subst (λ z. slice_get z i ≡ Some r) c.as_slice-ranges.ensures.value c.range_at-left.ensures in
    let next : slice_get c.self.inside.items.items (suc c.in-Some.at) ≡ Some s = subst (λ z. slice_get z (suc i) ≡ Some s) c.as_slice-ranges.ensures.value c.next_to-right.ensures in
    let can : can_join r s ≡ true = sym c.can_join.ensures ∙ c.if-not-can_join.false in
    subst (λ z. can_join z t ≡ true) (some_same r q (sym at ∙ there)) (subst (λ z. can_join r z ≡ true) (some_same s t (sym next ∙ beside)) can)

pub note-requires : goal.note-requires
note-requires c =
    let r = c.range_at-left.result.now in
    let at : slice_get c.self.inside.items.items c.in-Some.at ≡ Some r = subst (λ z. slice_get z c.in-Some.at ≡ Some r) c.as_slice-ranges.ensures.value c.range_at-left.ensures in
    subst (λ n. n < length c.self.inside.places.items) (sym c.id_of-id.ensures) (id-low c.self.inside.items.items c.self.inside.lineage c.self.inside.places.items c.in-Some.at r c.self.invariant at)

pub invariant_of-self-in-Some : goal.invariant_of-self-in-Some
invariant_of-self-in-Some c =
    let k = c.args.key.now in
    let i = c.in-Some.at in
    let r = c.range_at-left.result.now in
    let s = c.next_to-right.result.now in
    let places = c.self.inside.places.items in
    let first : IsFirst (holds_key k) c.self.inside.items.items c.in-Some.at = subst (λ z. IsFirst (holds_key k) z i) c.as_slice.ensures.value c.in-Some.ensures.place in
    let at : slice_get c.self.inside.items.items c.in-Some.at ≡ Some r = subst (λ z. slice_get z i ≡ Some r) c.as_slice-ranges.ensures.value c.range_at-left.ensures in
    let next : slice_get c.self.inside.items.items (suc c.in-Some.at) ≡ Some s = subst (λ z. slice_get z (suc i) ≡ Some s) c.as_slice-ranges.ensures.value c.next_to-right.ensures in
    let can : can_join r s ≡ true = sym c.can_join.ensures ∙ c.if-not-can_join.false in
    merge-sound k c.self.inside.items.items c.merge_both.new.ranges.items c.self.inside.lineage c.merge_both.new.lineage places c.note.new.places.items i r s c.self.invariant first at next can
    (c.in_ok-merge_both-in-Some.ensures.ranges r s at next) (c.in_ok-merge_both-in-Some.ensures.descs r s at next)
    (c.note.ensures ∙ ap (λ n. set places n c.len-count.result) c.id_of-id.ensures ∙ ap (λ n. set places r.info.desc.id n) c.len-count.ensures)

pub returns-in_ok-merge_both-in-Some-clause-ok : goal.returns-in_ok-merge_both-in-Some-clause-ok
returns-in_ok-merge_both-in-Some-clause-ok c =
    let k = c.args.key.now in
    let i = c.in-Some.at in
    let r = c.range_at-left.result.now in
    let s = c.next_to-right.result.now in
    let first : IsFirst (holds_key k) c.self.inside.items.items c.in-Some.at = subst (λ z. IsFirst (holds_key k) z i) c.as_slice.ensures.value c.in-Some.ensures.place in
    let at : slice_get c.self.inside.items.items c.in-Some.at ≡ Some r = subst (λ z. slice_get z i ≡ Some r) c.as_slice-ranges.ensures.value c.range_at-left.ensures in
    let next : slice_get c.self.inside.items.items (suc c.in-Some.at) ≡ Some s = subst (λ z. slice_get z (suc i) ≡ Some s) c.as_slice-ranges.ensures.value c.next_to-right.ensures in
    let can : can_join r s ≡ true = sym c.can_join.ensures ∙ c.if-not-can_join.false in
    subst (λ z. Became (merge_at k) z (layout c.merge_both.new.ranges.items c.merge_both.new.lineage)) c.self.view_is
    (merge-became k c.self.inside.items.items c.merge_both.new.ranges.items c.self.inside.lineage c.merge_both.new.lineage i r s first at next can (c.in_ok-merge_both-in-Some.ensures.ranges r s at next) (c.in_ok-merge_both-in-Some.ensures.descs r s at next))

pub returns-in-None-clause-ok : goal.returns-in-None-clause-ok
returns-in-None-clause-ok c =
    let k = c.args.key.now in
    let none : Each (λ r. holds_key k r ≡ false) c.self.inside.items.items = subst (Each (λ r. holds_key k r ≡ false)) c.as_slice.ensures.value c.in-None.ensures.place in
    subst (λ z. Became (merge_at k) z z) c.self.view_is (became-none merge_in k c.self.inside.items.items c.self.inside.lineage none)
