-- Where things stand in a list whose numbers rise.
use Rattle.std.proofs.Common.{◌≡◌, ℕ, zero, suc, ◌+◌, ◌-◌, ◌≤◌, ◌<◌, Bool, true, false, not, cond, List, [], ◌∷◌, length, get_or, slice_get, refl, sym, ap, ◌∙◌, subst, Option, Some, None, arith, nat_le, nat_lt, ◌==◌}
use Rattle.std.specs.List.{find, prefix_len}
use Rattle.std.specs.Option.{option_or}
use Rattle.std.proofs.lemmas.Bool.{leb-false, eqb-true}
use Rattle.std.proofs.lemmas.Bool.Decides.{nat_tests}
use Rattle.std.proofs.lemmas.List.Sums.{prefix_len_is, prefix_len-le-length}
use Rattle.std.specs.List.Sorted.{IsNonDecreasingBy, IsPartitionPoint}
use Rattle.ds_cell.specs.Content.{AllAbove, Rises}
use Rattle.ds_cell.specs.Seen.{last_where}
use Rattle.ds_cell.specs.Change.{place_before}
use Rattle.ds_cell.proofs.Histories.{place-prefix}
use Rattle.ds_cell.proofs.LatestFacts.{last_where-cons}

module _ {X : Type 0} (f : X → ℕ) where
  -- each element is above
  above_at : (m : ℕ) (xs : List X) (j : ℕ) (d : X) → AllAbove f m xs → j < length xs → m < f (get_or xs j d)
  above_at m [] j d all low = omega arith
  above_at m (x ∷ xs) zero d all low = all.0
  above_at m (x ∷ xs) (suc j) d all low = above_at m xs j d all.1 (omega arith)

  pub rises-up : (xs : List X) → Rises f xs → IsNonDecreasingBy f xs
  rises-up [] r i j d le lt = omega arith
  rises-up (x ∷ xs) r zero zero d le lt = omega arith
  rises-up (x ∷ xs) r zero (suc j) d le lt = let a : f x < f (get_or xs j d) = above_at (f x) xs j d r.0 (omega arith) in omega arith
  rises-up (x ∷ xs) r (suc i) zero d le lt = omega arith
  rises-up (x ∷ xs) r (suc i) (suc j) d le lt = rises-up xs r.1 i j d (omega arith) (omega arith)

  low_stays : (n m : ℕ) → nat_le m n ≡ true → not (nat_lt n m) ≡ true
  low_stays n m h = grind (arith, nat_tests)

  high_stops : (n m : ℕ) → nat_le m n ≡ false → not (nat_lt n m) ≡ false
  high_stops n m h = grind (arith, nat_tests)

  -- the point before which all are up to n is the place before the first greater one
  pub point_is_place : (n : ℕ) (xs : List X) (i : ℕ) → i ≤ length xs → IsPartitionPoint (λ x. nat_le (f x) n ≡ true) (λ x. nat_le (f x) n ≡ false) xs i → i ≡ place_before (λ x. nat_lt n (f x)) xs
  point_is_place n [] i within point = let none : i ≡ 0 = omega arith in none
  point_is_place n (x ∷ xs) i within point =
      sym (prefix_len_is (λ y. not (nat_lt n (f y))) (x ∷ xs) i x within (λ k l. low_stays n _ (point.0 k x (omega arith) l)) (λ l. high_stops n _ (point.1 i x (omega arith) l)))
      ∙ sym (place-prefix (λ y. nat_lt n (f y)) (x ∷ xs))

  -- the element before a place
  abbrev pub before : List X → ℕ → Option X
  before xs zero = None
  before xs (suc i) = slice_get xs i

  none_up_to : (n m : ℕ) (xs : List X) → n ≤ m → AllAbove f m xs → last_where (λ x. nat_le (f x) n) xs ≡ None
  none_up_to n m [] low all = refl
  none_up_to n m (x ∷ xs) low all =
      let high : nat_le (f x) n ≡ false = (let a : m < f x = all.0 in grind (arith, nat_tests)) in
      last_where-cons (λ x. nat_le (f x) n) x xs
      ∙ ap (λ o. option_or o (cond (nat_le (f x) n) (Some x) None)) (none_up_to n m xs low all.1)
      ∙ ap (λ t. cond t (Some x) None) high

  or_there : (x : X) (xs : List X) (j : ℕ) → j < length xs → option_or (slice_get xs j) (Some x) ≡ slice_get xs j
  or_there x [] j low = absurd (omega arith)
  or_there x (y ∷ ys) zero low = refl
  or_there x (y ∷ ys) (suc j) low = or_there x ys j (omega arith)

  before-more : (xs : List X) (k : ℕ) → before xs (1 + k) ≡ slice_get xs k
  before-more xs k = let e : suc k ≡ 1 + k = omega arith in subst (λ z. before xs z ≡ slice_get xs k) e refl

  or_first : (x : X) (xs : List X) (k : ℕ) → k ≤ length xs → option_or (before xs k) (Some x) ≡ slice_get (x ∷ xs) k
  or_first x xs zero within = refl
  or_first x xs (suc j) within = or_there x xs j (omega arith)

  within_len : (n : ℕ) (xs : List X) → prefix_len (λ x. not (nat_lt n (f x))) xs ≤ length xs
  within_len n xs = prefix_len-le-length (λ x. not (nat_lt n (f x))) xs

  latest_by : (n : ℕ) (x : X) (xs : List X) (o : Option X) → AllAbove f (f x) xs → last_where (λ y. nat_le (f y) n) xs ≡ o → o ≡ before xs (prefix_len (λ y. not (nat_lt n (f y))) xs) → last_where (λ y. nat_le (f y) n) (x ∷ xs) ≡ before (x ∷ xs) (prefix_len (λ y. not (nat_lt n (f y))) (x ∷ xs))
  latest_by n x xs o all is place =
      last_where-cons (λ y. nat_le (f y) n) x xs
      ∙ elim (nat_le (f x) n) as (λ t. nat_le (f x) n ≡ t → option_or (last_where (λ y. nat_le (f y) n) xs) (cond t (Some x) None) ≡ before (x ∷ xs) (cond (not (nat_lt n (f x))) (1 + prefix_len (λ y. not (nat_lt n (f y))) xs) 0)) [
        | true ↦ λ e.
            ap (λ z. option_or z (Some x)) (is ∙ place) ∙ or_first x xs _ (within_len n xs)
            ∙ sym (before-more (x ∷ xs) _)
            ∙ sym (ap (λ t. before (x ∷ xs) (cond t (1 + prefix_len (λ y. not (nat_lt n (f y))) xs) 0)) (low_stays n (f x) e))
        | false ↦ λ e.
            let low : n < f x = leb-false _ _ e in
            ap (λ z. option_or z None) (none_up_to n (f x) xs (omega arith) all)
            ∙ sym (ap (λ t. before (x ∷ xs) (cond t (1 + prefix_len (λ y. not (nat_lt n (f y))) xs) 0)) (high_stops n (f x) e))
      ] refl

  -- the last up to n stands before that place
  latest_before : (n : ℕ) (xs : List X) → Rises f xs → last_where (λ x. nat_le (f x) n) xs ≡ before xs (prefix_len (λ x. not (nat_lt n (f x))) xs)
  latest_before n [] r = refl
  latest_before n (x ∷ xs) r = latest_by n x xs _ r.0 refl (latest_before n xs r.1)

  placed : (n : ℕ) (xs : List X) (count : ℕ) → Rises f xs → count ≡ place_before (λ x. nat_lt n (f x)) xs → last_where (λ x. nat_le (f x) n) xs ≡ before xs count
  placed n xs count r is = latest_before n xs r ∙ ap (before xs) (sym (is ∙ place-prefix (λ x. nat_lt n (f x)) xs))

  pub latest_none : (n : ℕ) (xs : List X) (count : ℕ) → Rises f xs → count ≡ place_before (λ x. nat_lt n (f x)) xs → count ≡ 0 → None ≡ last_where (λ x. nat_le (f x) n) xs
  latest_none n xs count r is zero_is = sym (placed n xs count r is ∙ ap (before xs) zero_is)

  pub latest_some : (n : ℕ) (xs : List X) (count : ℕ) → Rises f xs → count ≡ place_before (λ x. nat_lt n (f x)) xs → 1 ≤ count → slice_get xs (count - 1) ≡ last_where (λ x. nat_le (f x) n) xs
  latest_some n xs count r is some = let e : 1 + (count - 1) ≡ count = omega arith in sym (placed n xs count r is ∙ ap (before xs) (sym e) ∙ before-more xs (count - 1))

  -- the element, if it has the number
  abbrev pub if_named : ℕ → Option X → Option X
  if_named n None = None
  if_named n (Some x) = cond (f x == n) (Some x) None

  other : (n : ℕ) (x : X) (o : Option X) (t : Bool) → (f x == n) ≡ false → if_named n o ≡ if_named n (option_or o (cond t (Some x) None))
  other n x (Some w) t apart = refl
  other n x None true apart = sym (ap (λ b. cond b (Some x) None) apart)
  other n x None false apart = refl

  -- and it is the one with the number n, where there is one
  pub under_latest : (n : ℕ) (xs : List X) → Rises f xs → find (λ x. f x == n) xs ≡ if_named n (last_where (λ x. nat_le (f x) n) xs)
  under_latest n [] r = refl
  under_latest n (x ∷ xs) r =
      elim (f x == n) as (λ t. (f x == n) ≡ t → cond t (Some x) (find (λ y. f y == n) xs) ≡ if_named n (option_or (last_where (λ y. nat_le (f y) n) xs) (cond (nat_le (f x) n) (Some x) None))) [
        | true ↦ λ e.
            let same : f x ≡ n = eqb-true _ _ e in
            let low : nat_le (f x) n ≡ true = grind (arith, nat_tests) in
            sym (
            ap (λ o. if_named n (option_or o (cond (nat_le (f x) n) (Some x) None))) (none_up_to n (f x) xs (omega arith) r.0)
            ∙ ap (λ t. if_named n (cond t (Some x) None)) low
            ∙ ap (λ t. cond t (Some x) None) e
            )
        | false ↦ λ e. under_latest n xs r.1 ∙ other n x _ _ e
      ] refl
      ∙ ap (if_named n) (sym (last_where-cons (λ y. nat_le (f y) n) x xs))

  named : (m n : ℕ) → m ≡ n → (m == n) ≡ true
  named m n h = grind (arith, nat_tests)

  not_named : (m n : ℕ) → (m ≡ n → ⊥) → (m == n) ≡ false
  not_named m n h = elim (m == n) as (λ t. (m == n) ≡ t → t ≡ false) [
    | true ↦ λ e. absurd (h (eqb-true _ _ e))
    | false ↦ λ e. refl
  ] refl

  pub under_same : (n : ℕ) (xs : List X) (x : X) → Rises f xs → Some x ≡ last_where (λ y. nat_le (f y) n) xs → f x ≡ n → Some x ≡ find (λ y. f y == n) xs
  under_same n xs x r is same = sym (under_latest n xs r ∙ ap (if_named n) (sym is) ∙ ap (λ t. cond t (Some x) None) (named _ _ same))

  pub under_other : (n : ℕ) (xs : List X) (x : X) → Rises f xs → Some x ≡ last_where (λ y. nat_le (f y) n) xs → (f x ≡ n → ⊥) → None ≡ find (λ y. f y == n) xs
  under_other n xs x r is apart = sym (under_latest n xs r ∙ ap (if_named n) (sym is) ∙ ap (λ t. cond t (Some x) None) (not_named _ _ apart))

  pub under_none : (n : ℕ) (xs : List X) → Rises f xs → None ≡ last_where (λ y. nat_le (f y) n) xs → None ≡ find (λ y. f y == n) xs
  under_none n xs r is = sym (under_latest n xs r ∙ ap (if_named n) (sym is))
