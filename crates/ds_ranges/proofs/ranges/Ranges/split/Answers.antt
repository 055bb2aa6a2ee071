use Rattle.std.proofs.Common.{◌≡◌, ◌<◌, ◌-◌, ◌+◌, ◌∷◌, ◌++◌, [], true, false, suc, Some, sym, ap, ◌∙◌, subst, length, arith}
use Rattle.std.specs.List.{insert, slice_get}
use Rattle.std.proofs.Math.ListN.{set}
use Rattle.std.proofs.lemmas.List.{length-append}
use Rattle.ds_base.proofs.SmallFacts.{some_same}
use Rattle.ds_desc.specs.Descs.{greatest_id}
use Rattle.ds_rule.specs.Pieces.{Each}
use Rattle.ds_rule.specs.Shifts.{can_split, left_part, right_part, split_at}
use Rattle.ds_rule.specs.World.{holds_key}
use Rattle.ds_ranges.specs.Layout.{Became, layout}
use Rattle.ds_ranges.specs.Places.{IsFirst}
use Rattle.ds_ranges.proofs.Events.{id-low, newest-at, split-became, split-kept, split-none, split-sound}
use Rattle.ds_ranges.proofs.Parting.{split-top}
use Rattle.ds_ranges.proofs.ranges.Ranges.split.Goals as goal

pub returns-then-not-can_split-clause-ok : goal.returns-then-not-can_split-clause-ok
returns-then-not-can_split-clause-ok c =
    let k = c.args.key.now in
    let i = c.in-Some.at in
    let r = c.range_at-range.result.now in
    let first : IsFirst (holds_key k) c.self.inside.items.items c.in-Some.at = subst (λ z. IsFirst (holds_key k) z i) c.as_slice.ensures.value c.in-Some.ensures.place in
    let at : slice_get c.self.inside.items.items c.in-Some.at ≡ Some r = subst (λ z. slice_get z i ≡ Some r) c.as_slice-ranges.ensures.value c.range_at-range.ensures in
    let can : can_split (greatest_id c.self.inside.lineage) k r ≡ false = ap (λ n. can_split n k r) (sym c.greatest_id-top.ensures) ∙ sym c.can_split.ensures ∙ c.if-not-can_split.true in
    subst (λ z. Became (split_at k) z z) c.self.view_is (split-kept k c.self.inside.items.items c.self.inside.lineage i r first at can)

pub overflow_add-next : goal.overflow_add-next
overflow_add-next c =
    let low : c.greatest_id-top.result < 4294967295 = split-top c.greatest_id-top.result c.args.key.now c.range_at-range.result.now (sym c.can_split.ensures ∙ c.if-not-can_split.false) in
    omega arith

pub split_both-requires-clause-first : goal.split_both-requires-clause-first
split_both-requires-clause-first c = subst (λ z. IsFirst (holds_key c.args.key.now) z c.in-Some.at) c.as_slice.ensures.value c.in-Some.ensures.place

pub split_both-requires-clause-newest : goal.split_both-requires-clause-newest
split_both-requires-clause-newest c = λ r at.
    newest-at c.self.inside.items.items c.self.inside.lineage c.self.inside.places.items c.in-Some.at c.own_place-place.result r c.self.invariant at
    (subst (λ z. slice_get z r.info.desc.id ≡ Some c.own_place-place.result) c.as_slice-places.ensures.value (c.own_place-place.ensures r (subst (λ z. slice_get z c.in-Some.at ≡ Some r) (sym c.as_slice-ranges.ensures.value) at)))

pub split_both-requires-clause-can : goal.split_both-requires-clause-can
split_both-requires-clause-can c = λ q there.
    let k = c.args.key.now in
    let r = c.range_at-range.result.now in
    let at : slice_get c.self.inside.items.items c.in-Some.at ≡ Some r = subst (λ z. slice_get z c.in-Some.at ≡ Some r) c.as_slice-ranges.ensures.value c.range_at-range.ensures in
    let can : can_split (greatest_id c.self.inside.lineage) k r ≡ true = ap (λ n. can_split n k r) (sym c.greatest_id-top.ensures) ∙ sym c.can_split.ensures ∙ c.if-not-can_split.false in
    subst (λ z. can_split (greatest_id c.self.inside.lineage) k z ≡ true) (some_same r q (sym at ∙ there)) can

pub overflow_sub-last : goal.overflow_sub-last
overflow_sub-last c =
    let k = c.args.key.now in
    let r = c.range_at-range.result.now in
    let ds = c.self.inside.lineage in
    let made = (left_part k r).info.desc ∷ (right_part (c.greatest_id-top.result + 1) k r).info.desc ∷ [] in
    let at : slice_get c.self.inside.items.items c.in-Some.at ≡ Some r = subst (λ z. slice_get z c.in-Some.at ≡ Some r) c.as_slice-ranges.ensures.value c.range_at-range.ensures in
    let long : length c.split_both.new.lineage ≡ length ds + 2 = ap length (c.in_ok-split_both-in-Some.ensures.descs r at) ∙ length-append ds made in
    omega (arith, long)

pub note_two-requires-clause-within : goal.note_two-requires-clause-within
note_two-requires-clause-within c =
    let r = c.range_at-range.result.now in
    let at : slice_get c.self.inside.items.items c.in-Some.at ≡ Some r = subst (λ z. slice_get z c.in-Some.at ≡ Some r) c.as_slice-ranges.ensures.value c.range_at-range.ensures in
    subst (λ zs. c.id_of-id.result < length zs) (sym c.reserve.ensures.items)
    (subst (λ n. n < length c.self.inside.places.items) (sym c.id_of-id.ensures) (id-low c.self.inside.items.items c.self.inside.lineage c.self.inside.places.items c.in-Some.at r c.self.invariant at))

pub invariant_of-self-in-Some : goal.invariant_of-self-in-Some
invariant_of-self-in-Some c =
    let k = c.args.key.now in
    let i = c.in-Some.at in
    let r = c.range_at-range.result.now in
    let rs = c.self.inside.items.items in
    let ds = c.self.inside.lineage in
    let places = c.self.inside.places.items in
    let id = c.id_of-id.result in
    let count = c.len-count.result in
    let last = c.len-last.result - 1 in
    let made = (left_part k r).info.desc ∷ (right_part (c.greatest_id-top.result + 1) k r).info.desc ∷ [] in
    let first : IsFirst (holds_key k) c.self.inside.items.items c.in-Some.at = subst (λ z. IsFirst (holds_key k) z i) c.as_slice.ensures.value c.in-Some.ensures.place in
    let at : slice_get c.self.inside.items.items c.in-Some.at ≡ Some r = subst (λ z. slice_get z i ≡ Some r) c.as_slice-ranges.ensures.value c.range_at-range.ensures in
    let can : can_split (greatest_id ds) k r ≡ true = ap (λ n. can_split n k r) (sym c.greatest_id-top.ensures) ∙ sym c.can_split.ensures ∙ c.if-not-can_split.false in
    let long : length c.split_both.new.lineage ≡ length ds + 2 = ap length (c.in_ok-split_both-in-Some.ensures.descs r at) ∙ length-append ds made in
    let end : c.len-last.result ≡ length c.split_both.new.lineage = c.len-last.ensures in
    let is : c.len-last.result - 1 ≡ length ds + 1 = omega (arith, long, end) in
    split-sound k rs c.split_both.new.ranges.items ds c.split_both.new.lineage places c.note_two.new.places.items i r c.self.invariant first at can
    (c.in_ok-split_both-in-Some.ensures.ranges r at ∙ ap (λ n. insert (set rs i (left_part k r)) (suc i) (right_part (n + 1) k r)) c.greatest_id-top.ensures)
    (c.in_ok-split_both-in-Some.ensures.descs r at ∙ ap (λ n. ds ++ (left_part k r).info.desc ∷ (right_part (n + 1) k r).info.desc ∷ []) c.greatest_id-top.ensures)
    (c.note_two.ensures ∙ ap (λ zs. set zs id count ++ last ∷ []) c.reserve.ensures.items ∙ ap (λ n. set places n count ++ last ∷ []) c.id_of-id.ensures
    ∙ ap (λ n. set places r.info.desc.id n ++ last ∷ []) c.len-count.ensures ∙ ap (λ n. set places r.info.desc.id (length ds) ++ n ∷ []) is)

pub returns-in_ok-split_both-in-Some-clause-ok : goal.returns-in_ok-split_both-in-Some-clause-ok
returns-in_ok-split_both-in-Some-clause-ok c =
    let k = c.args.key.now in
    let i = c.in-Some.at in
    let r = c.range_at-range.result.now in
    let rs = c.self.inside.items.items in
    let ds = c.self.inside.lineage in
    let first : IsFirst (holds_key k) c.self.inside.items.items c.in-Some.at = subst (λ z. IsFirst (holds_key k) z i) c.as_slice.ensures.value c.in-Some.ensures.place in
    let at : slice_get c.self.inside.items.items c.in-Some.at ≡ Some r = subst (λ z. slice_get z i ≡ Some r) c.as_slice-ranges.ensures.value c.range_at-range.ensures in
    let can : can_split (greatest_id ds) k r ≡ true = ap (λ n. can_split n k r) (sym c.greatest_id-top.ensures) ∙ sym c.can_split.ensures ∙ c.if-not-can_split.false in
    subst (λ z. Became (split_at k) z (layout c.split_both.new.ranges.items c.split_both.new.lineage)) c.self.view_is
    (split-became k rs c.split_both.new.ranges.items ds c.split_both.new.lineage i r first at can
    (c.in_ok-split_both-in-Some.ensures.ranges r at ∙ ap (λ n. insert (set rs i (left_part k r)) (suc i) (right_part (n + 1) k r)) c.greatest_id-top.ensures)
    (c.in_ok-split_both-in-Some.ensures.descs r at ∙ ap (λ n. ds ++ (left_part k r).info.desc ∷ (right_part (n + 1) k r).info.desc ∷ []) c.greatest_id-top.ensures))

pub returns-in-None-clause-ok : goal.returns-in-None-clause-ok
returns-in-None-clause-ok c =
    let k = c.args.key.now in
    let none : Each (λ r. holds_key k r ≡ false) c.self.inside.items.items = subst (Each (λ r. holds_key k r ≡ false)) c.as_slice.ensures.value c.in-None.ensures.place in
    subst (λ z. Became (split_at k) z z) c.self.view_is (split-none k c.self.inside.items.items c.self.inside.lineage none)
