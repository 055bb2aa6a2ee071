-- Items, chains and measures: cases that hold, and cases that must not.
use Rattle.std.proofs.Common.{◌≡◌, ℕ, ◌+◌, ◌-◌, ◌≤◌, ◌<◌, ◌==◌, true, false, List, [], ◌∷◌, refl, sym, inl, inr, arith}
use Rattle.ds_base.specs.Number.{key_number}
use Rattle.ds_base.specs.Order.{Extent}
use Rattle.ds_base.specs.Ordered.{key_eq}
use Rattle.ds_base.proofs.KeyNumber.{key_number-rises}
use Rattle.ds_base.proofs.TestFacts.{differs}
use Rattle.ds_kind.specs.declared.batch.Item.{Item}
use Rattle.ds_cover.specs.Chains.{Chain, KeysDiffer}
use Rattle.ds_cover.specs.Items.{PositionsRise, AreProper}
use Rattle.ds_cover.specs.Limits.{cut_each, KeepsTaken, NoneTaken}
use Rattle.ds_cover.specs.Measures.{span_left, left_in, IsSpan}
use Rattle.ds_cover.specs.Origins.{IsCut, CutsOf, scan_of, get_of, scan_then_get}
use Rattle.ds_cover.proofs.InOrder.{ascend-differ}
use Rattle.ds_cover.proofs.Tests.{never, and_true, and_no}

-- positions

they_rise : PositionsRise scan_then_get
they_rise = ((omega arith, tt), (tt, tt))

not_one_position : PositionsRise (get_of 3 (97 ∷ []) ∷ get_of 3 (98 ∷ []) ∷ []) → ⊥
not_one_position h = let low : 3 < 3 = h.0.0 in omega (arith, low)

not_falling : PositionsRise (get_of 4 (97 ∷ []) ∷ get_of 3 (98 ∷ []) ∷ []) → ⊥
not_falling h = let low : 4 < 3 = h.0.0 in omega (arith, low)

-- proper spans, and spans of keys

both_proper : AreProper scan_then_get
both_proper = refl

not_an_empty_scan : AreProper (scan_of 2 (98 ∷ []) (98 ∷ []) ∷ []) → ⊥
not_an_empty_scan h = never h

not_a_scan_that_falls : AreProper (scan_of 2 (98 ∷ []) (97 ∷ []) ∷ []) → ⊥
not_a_scan_that_falls h = never h

-- after the greatest key there is none
not_the_last_key : AreProper (get_of 2 (255 ∷ 255 ∷ []) ∷ []) → ⊥
not_the_last_key h = never h

not_an_empty_span : IsSpan (record { start = 98 ∷ []; end = 98 ∷ [] }) → ⊥
not_an_empty_span h = never h.some

-- what is left: nothing of an empty span, and something of a span of keys

nothing_is_left : left_in (scan_of 2 (98 ∷ []) (98 ∷ []) ∷ []) ≡ 0
nothing_is_left = none (key_number (98 ∷ []))
  where
    none : (n : ℕ) → (n - n) + 0 ≡ 0
    none n = omega arith

something_is_left : (x : Extent) → IsSpan x → span_left x ≡ 0 → ⊥
something_is_left x h none = some (key_number x.start) (key_number x.end) (key_number-rises x.start x.end h.start h.end h.some) none
  where
    some : (n m : ℕ) → n < m → m - n ≡ 0 → ⊥
    some n m h e = omega (arith, h, e)

-- cuts

not_wider : IsCut (scan_of 2 (98 ∷ []) (99 ∷ [])) (scan_of 2 (98 ∷ []) (100 ∷ [])) → ⊥
not_wider h = never h.inside.1

not_under_another_position : IsCut (scan_of 2 (98 ∷ []) (100 ∷ [])) (scan_of 3 (98 ∷ []) (99 ∷ [])) → ⊥
not_under_another_position h = differs h.same (λ (i : Item). i.pos == 3) refl refl

not_in_another_order : CutsOf scan_then_get (get_of 5 (99 ∷ []) ∷ scan_of 2 (98 ∷ []) (99 ∷ []) ∷ []) → ⊥
not_in_another_order h =
    elim h [
      | inl one ↦ differs one.0.same (λ (i : Item). i.pos == 5) refl refl
      | inr more ↦ elim more [
        | inl one ↦ one.1
        | inr none ↦ none
      ]
    ]

-- keys that differ

two_keys : KeysDiffer (λ k. k) ((97 ∷ []) ∷ (98 ∷ []) ∷ [])
two_keys = ascend-differ (λ k. k) ((97 ∷ []) ∷ (98 ∷ []) ∷ []) ((refl, tt), (tt, tt))

not_one_key : KeysDiffer (λ k. k) ((97 ∷ []) ∷ (97 ∷ []) ∷ []) → ⊥
not_one_key h = let low : 2 ≤ 1 = h (97 ∷ []) in omega (arith, low)

-- chains

abbrev span_of_two : List ℕ → List ℕ → Extent
span_of_two s e = record { start = s; end = e }

no_gap : Chain (λ x. x) (97 ∷ []) (100 ∷ []) (span_of_two (97 ∷ []) (98 ∷ []) ∷ span_of_two (99 ∷ []) (100 ∷ []) ∷ []) → ⊥
no_gap h = differs h.2.0 (key_eq (99 ∷ [])) refl refl

no_overlap : Chain (λ x. x) (97 ∷ []) (100 ∷ []) (span_of_two (97 ∷ []) (99 ∷ []) ∷ span_of_two (98 ∷ []) (100 ∷ []) ∷ []) → ⊥
no_overlap h = differs h.2.0 (key_eq (98 ∷ [])) refl refl

-- each item cut in its own way, and what was taken

whole : cut_each (λ i x. x) scan_then_get ≡ scan_then_get
whole = refl

nothing_of_no_span : cut_each (λ i x. record { start = x.start; end = x.start }) scan_then_get ≡ []
nothing_of_no_span = refl

all_kept : KeepsTaken (λ n k. true) (λ i x. x) scan_then_get
all_kept = ((λ k. sym (and_true _)), ((λ k. sym (and_true _)), tt))

not_kept : KeepsTaken (λ n k. false) (λ i x. x) scan_then_get → ⊥
not_kept h = never (sym (h.0 (98 ∷ [])))

nothing_taken : NoneTaken (λ n k. false) scan_then_get
nothing_taken = ((λ k. and_no _), ((λ k. and_no _), tt))

not_taken : NoneTaken (λ n k. true) scan_then_get → ⊥
not_taken h = never (sym (h.0 (98 ∷ [])))
