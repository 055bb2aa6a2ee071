-- What a cache keeps after an entry was added.
use Rattle.std.proofs.Common.{◌≡◌, ℕ, zero, suc, ◌+◌, ◌-◌, ◌≤◌, ◌<◌, Bool, true, false, ◌&&◌, List, [], ◌∷◌, length, take, slice_get, length-take, ◌⊎◌, inl, inr, Option, Some, None, refl, sym, ap, ◌∙◌, subst, arith, nat_eq, true≢false}
use Rattle.std.specs.Cmp.{nat_eq_equiv}
use Rattle.std.specs.List.{IsDistinct}
use Rattle.std.specs.Map.{keys_of}
use Rattle.std.proofs.lemmas.Map.Views.{exact_unsigned_eq}
use Rattle.ds_base.specs.Order.{key_lt, Extent}
use Rattle.ds_base.proofs.SmallFacts.{none_some, some_none, some_same}
use Rattle.ds_desc.specs.declared.desc.Info.{Info}
use Rattle.ds_desc.specs.Descs.{overlap}
use Rattle.ds_cache.specs.Entries.{Entry, cache, at_serial, without, IsSound, IsIndex}
use Rattle.ds_cache.specs.Insert.{clear_of}
use Rattle.ds_cache.proofs.Serials.{at_head, at_tail, none_later, distinct_tail, distinct_more}

abbrev no_entries : List Entry
no_entries = []

pub none_distinct : IsDistinct nat_eq (keys_of no_entries)
unfolding IsDistinct
none_distinct = tt

-- ---- nothing stands yet

pub sound_empty : (n : ℕ) (es : List Entry) → es ≡ [] → 1 ≤ n → IsSound (cache es n 0)
sound_empty n [] h some = record {
  apart = λ s t a b p q o. none_some a p;
  spans = λ s i p. none_some i p;
  serials = λ s i p. none_some i p;
  distinct = none_distinct;
  fits = omega arith;
  some = some;
}
sound_empty n (e ∷ es) h some = cc

pub index_empty : (es : List Entry) (m : List (List ℕ × ℕ)) → es ≡ [] → m ≡ [] → IsIndex es m
index_empty [] [] h g = record { only = λ k s p. none_some s p; each = λ s i p. none_some i p }
index_empty [] (x ∷ xs) h g = cc
index_empty (e ∷ es) m h g = cc

and_flips : (a b : Bool) → a && b ≡ b && a
and_flips true true = refl
and_flips true false = refl
and_flips false true = refl
and_flips false false = refl

-- ---- the last entry taken out

at_place : (n : ℕ) (es : List Entry) (e : Entry) → IsDistinct nat_eq (keys_of es) → slice_get es n ≡ Some e → at_serial e.0 es ≡ Some e.1
at_place n [] e d h = absurd (some_none e (sym h))
at_place zero (x ∷ xs) e d h = let same : x ≡ e = some_same_entry x e h in subst (λ y. at_serial y.0 (x ∷ xs) ≡ Some y.1) same (at_head x xs)
  where
    some_same_entry : (a b : Entry) → Some a ≡ Some b → a ≡ b
    some_same_entry a b h = cc
at_place (suc n) (x ∷ xs) e d h = at_tail x xs d e.0 e.1 (at_place n xs e (distinct_tail x xs d) h)

pub last_without : (n : ℕ) (es : List Entry) (e : Entry) → IsDistinct nat_eq (keys_of es) → length es ≡ suc n → slice_get es n ≡ Some e → without e.0 es ≡ take n es
last_without n [] e d l h = absurd (some_none e (sym h))
last_without zero (x ∷ []) e d l h = rw (ap (λ o. key_or e.0 o) (sym h)) (rw (nat_eq_equiv.refl x.0) refl)
  where
    key_or : ℕ → Option Entry → ℕ
    key_or k None = k
    key_or k (Some y) = y.0
last_without zero (x ∷ y ∷ ys) e d l h = absurd (omega (arith, l))
last_without (suc n) (x ∷ xs) e d l h =
    (elim (nat_eq e.0 x.0) as (λ u. nat_eq e.0 x.0 ≡ u → without e.0 (x ∷ xs) ≡ take (suc n) (x ∷ xs)) [
      | true ↦ λ u. absurd (some_none e.1 (sym (at_place n xs e (distinct_tail x xs d) h) ∙ ap (λ k. at_serial k xs) (exact_unsigned_eq e.0 x.0 u) ∙ none_later x xs d))
      | false ↦ λ u. rw u (ap (λ l. x ∷ l) (last_without n xs e (distinct_tail x xs d) (omega (arith, l)) h))
    ]) refl

pub trimmed : (n m : ℕ) (es : List Entry) (e : Entry) (s : ℕ) → IsDistinct nat_eq (keys_of es) → m ≡ length es → n < m → m ≤ n + 1 → slice_get es (length es - 1) ≡ Some e → e.0 ≡ s → without s es ≡ take n es
trimmed n m es e s d l low high h is =
    let at : length es - 1 ≡ n = omega (arith, l, low, high) in
    ap (λ k. without k es) (sym is) ∙ last_without n es e d (omega (arith, l, low, high)) (ap (slice_get es) (sym at) ∙ h)

-- ---- the entries that are left

pub at_clear : (i : Info) (t : ℕ) (j : Info) (es : List Entry) → IsDistinct nat_eq (keys_of es) → at_serial t (clear_of i es) ≡ Some j → (at_serial t es ≡ Some j) × (overlap i.desc.span j.desc.span ≡ false)
at_clear i t j [] d h = absurd (some_none j (sym h))
at_clear i t j (e ∷ es) d h =
    (elim (overlap i.desc.span e.1.desc.span) as (λ u. overlap i.desc.span e.1.desc.span ≡ u → (at_serial t (e ∷ es) ≡ Some j) × (overlap i.desc.span j.desc.span ≡ false)) [
      | true ↦ λ u. let on = at_clear i t j es (distinct_tail e es d) (rw u at h) in (at_tail e es d t j on.0, on.1)
      | false ↦ λ u. (elim (nat_eq t e.0) as (λ w. nat_eq t e.0 ≡ w → (at_serial t (e ∷ es) ≡ Some j) × (overlap i.desc.span j.desc.span ≡ false)) [
        | true ↦ λ w.
            let h1 : at_serial t (e ∷ clear_of i es) ≡ Some j = rw u at h in
            let v : e.1 ≡ j = some_same e.1 j (rw w at h1) in
            (rw w (ap (λ x. Some x) v), ap (λ x. overlap i.desc.span x.desc.span) (sym v) ∙ u)
        | false ↦ λ w.
            let h1 : at_serial t (e ∷ clear_of i es) ≡ Some j = rw u at h in
            let on = at_clear i t j es (distinct_tail e es d) (rw w at h1) in (at_tail e es d t j on.0, on.1)
      ]) refl
    ]) refl

none_clear : (i : Info) (t : ℕ) (es : List Entry) → IsDistinct nat_eq (keys_of es) → at_serial t es ≡ None → at_serial t (clear_of i es) ≡ None
none_clear i t es d h =
    (elim (at_serial t (clear_of i es)) as (λ o. at_serial t (clear_of i es) ≡ o → at_serial t (clear_of i es) ≡ None) [
      | None ↦ λ u. u
      | Some j ↦ λ u. absurd (some_none j (sym (at_clear i t j es d u).0 ∙ h))
    ]) refl

distinct_clear : (i : Info) (es : List Entry) → IsDistinct nat_eq (keys_of es) → IsDistinct nat_eq (keys_of (clear_of i es))
distinct_clear i [] d = d
distinct_clear i (e ∷ es) d =
    (elim (overlap i.desc.span e.1.desc.span) as (λ u. overlap i.desc.span e.1.desc.span ≡ u → IsDistinct nat_eq (keys_of (clear_of i (e ∷ es)))) [
      | true ↦ λ u. rw u (distinct_clear i es (distinct_tail e es d))
      | false ↦ λ u. rw u (distinct_more e (clear_of i es) (none_clear i e.0 es (distinct_tail e es d) (none_later e es d)) (distinct_clear i es (distinct_tail e es d)))
    ]) refl

length_clear : (i : Info) (es : List Entry) → length (clear_of i es) ≤ length es
length_clear i [] = omega arith
length_clear i (e ∷ es) =
    (elim (overlap i.desc.span e.1.desc.span) as (λ u. overlap i.desc.span e.1.desc.span ≡ u → length (clear_of i (e ∷ es)) ≤ length (e ∷ es)) [
      | true ↦ λ u. let on = length_clear i es in rw u (omega (arith, on))
      | false ↦ λ u. let on = length_clear i es in rw u (omega (arith, on))
    ]) refl

take_none : (n : ℕ) → take n no_entries ≡ no_entries
take_none zero = refl
take_none (suc n) = refl

pub at_take : (n t : ℕ) (j : Info) (es : List Entry) → at_serial t (take n es) ≡ Some j → at_serial t es ≡ Some j
at_take n t j [] h = absurd (some_none j (sym h ∙ ap (at_serial t) (take_none n)))
at_take zero t j (e ∷ es) h = absurd (some_none j (sym h))
at_take (suc n) t j (e ∷ es) h =
    (elim (nat_eq t e.0) as (λ w. nat_eq t e.0 ≡ w → at_serial t (e ∷ es) ≡ Some j) [
      | true ↦ λ w. rw w (rw w at h)
      | false ↦ λ w. rw w (at_take n t j es (rw w at h))
    ]) refl

none_take : (n t : ℕ) (es : List Entry) → at_serial t es ≡ None → at_serial t (take n es) ≡ None
none_take n t es h =
    (elim (at_serial t (take n es)) as (λ o. at_serial t (take n es) ≡ o → at_serial t (take n es) ≡ None) [
      | None ↦ λ u. u
      | Some j ↦ λ u. absurd (some_none j (sym (at_take n t j es u) ∙ h))
    ]) refl

distinct_take : (n : ℕ) (es : List Entry) → IsDistinct nat_eq (keys_of es) → IsDistinct nat_eq (keys_of (take n es))
distinct_take n [] d = subst (λ l. IsDistinct nat_eq (keys_of l)) (sym (take_none n)) d
distinct_take zero (e ∷ es) d = none_distinct
distinct_take (suc n) (e ∷ es) d = distinct_more e (take n es) (none_take n e.0 es (none_later e es d)) (distinct_take n es (distinct_tail e es d))

overlap_flips : (a b : Extent) → overlap a b ≡ overlap b a
overlap_flips a b = and_flips (key_lt a.start b.end) (key_lt b.start a.end)

-- ---- an entry added in front of those that don't overlap it

module _ (s : ℕ) (i : Info) (es : List Entry) (n g : ℕ) (h : IsSound (cache es n g)) (low : g < s) (span : key_lt i.desc.span.start i.desc.span.end ≡ true) where
  abbrev added : List Entry
  added = (s, i) ∷ clear_of i es

  -- the new entry, or an old one that doesn't overlap it
  abbrev Old : ℕ → Info → Type 0
  Old t j = (nat_eq s t ≡ false) × (at_serial t es ≡ Some j) × (overlap i.desc.span j.desc.span ≡ false)

  which : (t : ℕ) (j : Info) → at_serial t added ≡ Some j → ((t ≡ s) × (i ≡ j)) ⊎ Old t j
  which t j p =
      (elim (nat_eq t s) as (λ w. nat_eq t s ≡ w → ((t ≡ s) × (i ≡ j)) ⊎ Old t j) [
        | true ↦ λ w. inl (exact_unsigned_eq t s w, some_same i j (rw w at p))
        | false ↦ λ w. let on = at_clear i t j es h.distinct (rw w at p) in inr (nat_eq_equiv.symm s t ∙ w, on.0, on.1)
      ]) refl

  fresh : at_serial s es ≡ None
  fresh =
      (elim (at_serial s es) as (λ o. at_serial s es ≡ o → at_serial s es ≡ None) [
        | None ↦ λ u. u
        | Some j ↦ λ u. let le = (h.serials s j u).1 in absurd (omega (arith, le, low))
      ]) refl

  pub distinct_added : IsDistinct nat_eq (keys_of added)
  distinct_added = distinct_more (s, i) (clear_of i es) (none_clear i s es h.distinct fresh) (distinct_clear i es h.distinct)

  pub length_added : length added ≤ n + 1
  length_added = let c = length_clear i es in let f = h.fits in omega (arith, c, f)

  apart_added : (t u : ℕ) (a b : Info) → at_serial t added ≡ Some a → at_serial u added ≡ Some b → overlap a.desc.span b.desc.span ≡ true → t ≡ u
  apart_added t u a b p q o = elim (which t a p) [
    | inl x ↦ elim (which u b q) [
      | inl y ↦ x.0 ∙ sym y.0
      | inr y ↦ absurd (true≢false (sym o ∙ ap (λ k. overlap k.desc.span b.desc.span) (sym x.1) ∙ y.2))
    ]
    | inr x ↦ elim (which u b q) [
      | inl y ↦ absurd (true≢false (sym o ∙ overlap_flips a.desc.span b.desc.span ∙ ap (λ k. overlap k.desc.span a.desc.span) (sym y.1) ∙ x.2))
      | inr y ↦ h.apart t u a b x.1 y.1 o
    ]
  ]

  spans_added : (t : ℕ) (a : Info) → at_serial t added ≡ Some a → key_lt a.desc.span.start a.desc.span.end ≡ true
  spans_added t a p = elim (which t a p) [ inl x ↦ subst (λ k. key_lt k.desc.span.start k.desc.span.end ≡ true) x.1 span | inr x ↦ h.spans t a x.1 ]

  serials_added : (t : ℕ) (a : Info) → at_serial t added ≡ Some a → (0 < t) × (t ≤ s)
  serials_added t a p = elim (which t a p) [
    | inl x ↦ let e = x.0 in (omega (arith, e, low), omega (arith, e))
    | inr x ↦ let r = h.serials t a x.1 in let r0 = r.0 in let r1 = r.1 in (r0, omega (arith, r1, low))
  ]

  pub sound_added : IsSound (cache (take n added) n s)
  sound_added = record {
    apart = λ t u a b p q o. apart_added t u a b (at_take n t a added p) (at_take n u b added q) o;
    spans = λ t a p. spans_added t a (at_take n t a added p);
    serials = λ t a p. serials_added t a (at_take n t a added p);
    distinct = distinct_take n added distinct_added;
    fits = let l = length-take n added in omega (arith, l);
    some = h.some;
  }
