-- Items with proper spans, and spans of keys: each follows from the other, where the keys are keys.
use Rattle.std.proofs.Common.{◌≡◌, ℕ, ◌≤◌, true, false, List, [], ◌∷◌, length, refl, sym, ◌∙◌, length-append, nat_le, arith, cond, ◌++◌, subst}
use Rattle.std.proofs.lemmas.Bool.Decides.{nat_tests}
use Rattle.ds_base.specs.Order.{key_lt, after, bound, Extent}
use Rattle.ds_base.proofs.KeyOrder.{IsKey-after, after-above, below-after}
use Rattle.ds_base.proofs.SmallFacts.{and_first, and_second, and_both, le_of}
use Rattle.ds_kind.specs.Asks.{is_proper, has_proper_span}
use Rattle.ds_kind.specs.Reach.{Reach, At, Over, extent_of}
use Rattle.ds_kind.specs.Request.{reach_of, cut_to, span_of}
use Rattle.ds_kind.specs.declared.batch.Item.{Item}
use Rattle.ds_kind.specs.CutReach.{cut_reach}
use Rattle.ds_kind.proofs.RequestFacts.{reach_cut}
use Rattle.ds_base.specs.declared.value.Dir.{Dir}
use Rattle.ds_base.specs.declared.value.Dir.TheVariants.{Forward, Reverse}
use Rattle.ds_base.proofs.TestFacts.{not_false}
use Rattle.ds_cover.specs.Cuts.{cut_by, from, up_to, rest_items}
use Rattle.ds_cover.specs.Items.{AreProper}
use Rattle.ds_cover.specs.Measures.{AreKeys, IsSpan, AllSpans}

pub proper-span : (r : Reach) → AreKeys r → is_proper r ≡ true → IsSpan (extent_of r)
proper-span (At k) keys proper =
    record { start = keys; end = IsKey-after k keys.bytes (le_of (length k) 64 (and_first _ _ proper)) (and_second (nat_le (length k) 64) _ proper); some = below-after k }
proper-span (Over s e) keys proper = record { start = keys.0; end = keys.1; some = proper }

length-after : (k : List ℕ) → length (after k) ≤ 65 → nat_le (length k) 64 ≡ true
length-after k h = let one = length-append k (0 ∷ []) in let short : length k ≤ 64 = omega (arith, one, h) in grind (arith, nat_tests, short)

pub span-proper : (r : Reach) → IsSpan (extent_of r) → is_proper r ≡ true
span-proper (At k) its =
    and_both (nat_le (length k) 64) (key_lt k bound) (length-after k its.end.short) (not_false (key_lt k bound) (sym (after-above k bound) ∙ its.end.low))
span-proper (Over s e) its = its.some

pub spans-proper : (items : List Item) → AllSpans items → AreProper items
spans-proper [] all = refl
spans-proper (i ∷ is) all = and_both _ _ (span-proper (reach_of i.request) all.0) (spans-proper is all.1)

-- cuts of proper items are proper
cut-proper : (s e : List ℕ) (r : Reach) → is_proper r ≡ true → key_lt s e ≡ true → is_proper (cut_reach s e r) ≡ true
cut-proper s e (At k) p h = p
cut-proper s e (Over a b) p h = h

pub cuts-proper : (f : Extent → Extent) (items : List Item) → AreProper items → AreProper (cut_by f items)
cuts-proper f [] h = refl
cuts-proper f (i ∷ is) h =
    let x = span_of i.request in
    let cut = record i { request = cut_to (f x).start (f x).end i.request } in
    elim (key_lt (f x).start (f x).end) as (λ t. key_lt (f x).start (f x).end ≡ t → AreProper (cond t (cut ∷ []) [] ++ cut_by f is)) [
      | true ↦ λ some.
          and_both _ _
          (subst (λ r. is_proper r ≡ true) (sym (reach_cut (f x).start (f x).end i.request)) (cut-proper (f x).start (f x).end (reach_of i.request) (and_first _ _ h) some))
          (cuts-proper f is (and_second (has_proper_span i.request) _ h))
      | false ↦ λ none. cuts-proper f is (and_second (has_proper_span i.request) _ h)
    ] refl

pub rest-proper : (d : Dir) (span : Extent) (items : List Item) → AreProper items → AreProper (rest_items d span items)
rest-proper Forward span items h = cuts-proper (from span.end) items h
rest-proper Reverse span items h = cuts-proper (up_to span.start) items h
