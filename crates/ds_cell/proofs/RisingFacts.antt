-- What keeps numbers rising.
use Rattle.std.proofs.Common.{◌≡◌, ℕ, ◌+◌, ◌<◌, ◌≤◌, Bool, true, false, not, cond, List, [], ◌∷◌, refl, sym, ap, ◌∙◌, subst, Some, None, arith, nat_lt, ltb-true, ltb-false, ◌==◌, ◌||◌}
use Rattle.std.proofs.lemmas.Bool.{eqb-false}
use Rattle.std.specs.List.{filter, find, insert, position_or_len, prefix_len, list_any, fold}
use Rattle.ds_cell.specs.Seen.{under}
use Rattle.ds_cell.specs.Change.{place_before, made, with_write}
use Rattle.ds_cell.specs.Content.{AllAbove, Rises, stamp_of, seq_of}
use Rattle.ds_cell.specs.declared.entry.Version.{Version}
use Rattle.ds_cell.specs.declared.entry.Written.{Written}
use Rattle.ds_cell.proofs.Histories.{place-prefix, insert-one}

-- x before the first that passes
abbrev pub insert_before : {X : Type 0} → (X → Bool) → X → List X → List X
insert_before p x [] = x ∷ []
insert_before p x (y ∷ ys) = cond (p y) (x ∷ y ∷ ys) (y ∷ insert_before p x ys)

insert-at_prefix : {X : Type 0} (p : X → Bool) (x : X) (xs : List X) → insert xs (position_or_len p xs) x ≡ insert_before p x xs
insert-at_prefix p x [] = refl
insert-at_prefix p x (y ∷ ys) =
    elim (p y) as (λ t. insert (y ∷ ys) (cond (not t) (1 + prefix_len (λ z. not (p z)) ys) 0) x ≡ cond t (x ∷ y ∷ ys) (y ∷ insert_before p x ys)) [
      | true ↦ refl
      | false ↦ insert-one y ys x _ ∙ ap (λ zs. y ∷ zs) (insert-at_prefix p x ys)
    ]

pub insert-place : {X : Type 0} (p : X → Bool) (x : X) (xs : List X) → insert xs (place_before p xs) x ≡ insert_before p x xs
insert-place p x xs = ap (λ i. insert xs i x) (place-prefix p xs) ∙ insert-at_prefix p x xs

all_above-lower : {X : Type 0} (f : X → ℕ) (m n : ℕ) (xs : List X) → m ≤ n → AllAbove f n xs → AllAbove f m xs
all_above-lower f m n [] h a = tt
all_above-lower f m n (x ∷ xs) h a = let a0 : n < f x = a.0 in (omega arith, all_above-lower f m n xs h a.1)

all_above-insert : {X : Type 0} (f : X → ℕ) (p : X → Bool) (n : ℕ) (x : X) (xs : List X) → n < f x → AllAbove f n xs → AllAbove f n (insert_before p x xs)
all_above-insert f p n x [] h a = (h, tt)
all_above-insert f p n x (y ∷ ys) h a =
    elim (p y) as (λ t. AllAbove f n (cond t (x ∷ y ∷ ys) (y ∷ insert_before p x ys))) [
      | true ↦ (h, a)
      | false ↦ (a.0, all_above-insert f p n x ys h a.1)
    ]

-- no element has the number
abbrev pub IsFree : {X : Type 0} → (X → ℕ) → ℕ → List X → Type 0
IsFree f n [] = Unit {0}
IsFree f n (x ∷ xs) = ((f x == n) ≡ false) × IsFree f n xs

rises-insert_before : {X : Type 0} (f : X → ℕ) (x : X) (xs : List X) → IsFree f (f x) xs → Rises f xs → Rises f (insert_before (λ v. nat_lt (f x) (f v)) x xs)
rises-insert_before f x [] free r = (tt, tt)
rises-insert_before f x (y ∷ ys) free r =
    elim (nat_lt (f x) (f y)) as (λ t. nat_lt (f x) (f y) ≡ t → Rises f (cond t (x ∷ y ∷ ys) (y ∷ insert_before (λ v. nat_lt (f x) (f v)) x ys))) [
      | true ↦ λ e. let low : f x < f y = ltb-true _ _ e in ((low, all_above-lower f (f x) (f y) ys (omega arith) r.0), r)
      | false ↦ λ e.
          let high : f y ≤ f x = ltb-false _ _ e in
          let apart : f y ≡ f x → ⊥ = eqb-false _ _ free.0 in
          (all_above-insert f _ (f y) x ys (omega arith) r.0, rises-insert_before f x ys free.1 r.1)
    ] refl

pub rises-insert : {X : Type 0} (f : X → ℕ) (x : X) (xs : List X) → IsFree f (f x) xs → Rises f xs → Rises f (insert xs (place_before (λ v. nat_lt (f x) (f v)) xs) x)
rises-insert f x xs free r =
    subst (λ ys. Rises f ys) (sym (insert-place (λ v. nat_lt (f x) (f v)) x xs)) (rises-insert_before f x xs free r)

pub free_from_find : {X : Type 0} (f : X → ℕ) (n : ℕ) (xs : List X) → find (λ w. f w == n) xs ≡ None → IsFree f n xs
free_from_find f n [] h = tt
free_from_find f n (x ∷ xs) h =
    elim (f x == n) as (λ t. cond t (Some x) (find (λ w. f w == n) xs) ≡ None → (t ≡ false) × IsFree f n xs) [
      | true ↦ λ e. cc
      | false ↦ λ e. (refl, free_from_find f n xs e)
    ] h

pub free_from_any : {X : Type 0} (f : X → ℕ) (n : ℕ) (xs : List X) → list_any (λ w. f w == n) xs ≡ false → IsFree f n xs
free_from_any f n [] h = tt
free_from_any f n (x ∷ xs) h =
    elim (f x == n) as (λ t. (t || list_any (λ w. f w == n) xs) ≡ false → (t ≡ false) × IsFree f n xs) [
      | true ↦ λ e. cc
      | false ↦ λ e. (refl, free_from_any f n xs e)
    ] h

-- a write under a free number
pub rises_write : (h : List Written) (w : Written) → under w.seq.0 h ≡ None → Rises seq_of h → Rises seq_of (with_write w h)
rises_write h w free r = rises-insert seq_of w h (free_from_find seq_of _ h free) r

-- a version
pub rises_made : (vs : List Version) (v : Version) → Rises stamp_of vs → Rises stamp_of (made vs v)
rises_made vs v r =
    elim (list_any (λ u. u.stamp.0 == v.stamp.0) vs) as (λ t. list_any (λ u. u.stamp.0 == v.stamp.0) vs ≡ t → Rises stamp_of (cond t vs (insert vs (place_before (λ u. nat_lt v.stamp.0 u.stamp.0) vs) v))) [
      | true ↦ λ e. r
      | false ↦ λ e. rises-insert stamp_of v vs (free_from_any stamp_of _ vs e) r
    ] refl

pub rises_fold : (vs : List Version) (waiting : List Version) → Rises stamp_of vs → Rises stamp_of (fold made vs waiting)
rises_fold vs [] r = r
rises_fold vs (v ∷ waiting) r = rises_fold (made vs v) waiting (rises_made vs v r)

all_above-filter : {X : Type 0} (f : X → ℕ) (p : X → Bool) (n : ℕ) (xs : List X) → AllAbove f n xs → AllAbove f n (filter p xs)
all_above-filter f p n [] a = tt
all_above-filter f p n (x ∷ xs) a =
    elim (p x) as (λ t. AllAbove f n (cond t (x ∷ filter p xs) (filter p xs))) [
      | true ↦ (a.0, all_above-filter f p n xs a.1)
      | false ↦ all_above-filter f p n xs a.1
    ]

-- what is left of a list that rises
pub rises-filter : {X : Type 0} (f : X → ℕ) (p : X → Bool) (xs : List X) → Rises f xs → Rises f (filter p xs)
rises-filter f p [] r = tt
rises-filter f p (x ∷ xs) r =
    elim (p x) as (λ t. Rises f (cond t (x ∷ filter p xs) (filter p xs))) [
      | true ↦ (all_above-filter f p (f x) xs r.0, rises-filter f p xs r.1)
      | false ↦ rises-filter f p xs r.1
    ]
