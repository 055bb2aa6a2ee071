-- A record found by its number and changed where it stands, and what keeps the numbers rising.
use Rattle.std.proofs.Common.{◌≡◌, ℕ, zero, suc, ◌+◌, ◌-◌, ◌≤◌, ◌<◌, Bool, true, false, not, cond, List, [], ◌∷◌, ◌++◌, map, length, get_or, position, refl, sym, ap, ◌∙◌, subst, Some, None, arith, nat_lt, ltb-true, ltb-false, ◌==◌}
use Rattle.std.proofs.Math.ListN.{set}
use Rattle.std.proofs.lemmas.Bool.{eq-eqb, ne_eqb, lt-ltb, le-ltb}
use Rattle.std.proofs.lemmas.List.Folds.{find_at}
use Rattle.std.proofs.lemmas.List.Sums.{position_or_len_is}
use Rattle.std.proofs.lemmas.Option.{get_or_from_slice_get, slice_get_within, slice_get-get_or, slice_get_past}
use Rattle.std.specs.List.{find, position_or_len, slice_get}
use Rattle.ds_base.proofs.SmallFacts.{none_some, some_none, some_same, lt_of, ge_of}
use Rattle.ds_cell.specs.Content.{AllAbove, Rises}
use Rattle.ds_cell.proofs.Ranks.{rises-up}
use Rattle.ds_rule.specs.declared.record.RecordStatus.{RecordStatus}
use Rattle.ds_rule.specs.declared.record.TxnRecord.{TxnRecord}
use Rattle.ds_rule.specs.Records.{record_number, with_last, with_last_after, with_record, with_status, RisesIf, IsFirstFrom}

-- ---- the first that passes, by its place

module _ {X : Type 0} (p : X → Bool) where
  pub placed : (xs : List X) (i : ℕ) → i < length xs → position_or_len p xs ≡ i → Some i ≡ position p xs
  placed xs i low at =
      sym (ap (λ k. cond (nat_lt k (length xs)) (Some k) None) at ∙ ap (λ t. cond t (Some i) None) (lt-ltb _ _ low))

  pub unplaced : (xs : List X) → position_or_len p xs ≡ length xs → None ≡ position p xs
  unplaced xs at =
      sym (ap (λ t. cond t (Some (position_or_len p xs)) None) (le-ltb (position_or_len p xs) (length xs) (omega (arith, at))))

  record Placed (xs : List X) (i : ℕ) : Type 0 where
    at : i ≡ position_or_len p xs
    low : i < length xs

  place_of : (xs : List X) (i : ℕ) → Some i ≡ position p xs → Placed xs i
  place_of xs i h =
      elim (nat_lt (position_or_len p xs) (length xs)) as (λ t. nat_lt (position_or_len p xs) (length xs) ≡ t → Some i ≡ cond t (Some (position_or_len p xs)) None → Placed xs i) [
        | true ↦ λ e g.
            let same : i ≡ position_or_len p xs = some_same _ _ g in
            record { at = same; low = subst (λ n. n < length xs) (sym same) (lt_of _ _ e) }
        | false ↦ λ e g. some_none i g
      ] refl h

  pub place_low : (xs : List X) (i : ℕ) → Some i ≡ position p xs → i < length xs
  place_low xs i h = (place_of xs i h).low

  past_all : (xs : List X) → None ≡ position p xs → length xs ≤ position_or_len p xs
  past_all xs h =
      elim (nat_lt (position_or_len p xs) (length xs)) as (λ t. nat_lt (position_or_len p xs) (length xs) ≡ t → None ≡ cond t (Some (position_or_len p xs)) None → length xs ≤ position_or_len p xs) [
        | true ↦ λ e g. none_some _ g
        | false ↦ λ e g. ge_of _ _ e
      ] refl h

  pub found : (xs : List X) (i : ℕ) → Some i ≡ position p xs → slice_get xs i ≡ find p xs
  found xs i h = ap (slice_get xs) (place_of xs i h).at ∙ sym (find_at p xs)

  pub not_found : (xs : List X) → None ≡ position p xs → None ≡ find p xs
  not_found xs h = sym (find_at p xs ∙ slice_get_past xs _ (past_all xs h))

-- ---- where the number stands among numbers that rise: at the place before which all are below it, or nowhere

module _ {X : Type 0} (f : X → ℕ) where
  below-apart : (n m : ℕ) → nat_lt m n ≡ true → (m == n) ≡ false
  below-apart n m low = ne_eqb m n (λ same. let lower : m < n = ltb-true m n low in omega arith)

  pub from-here : (n : ℕ) (xs : List X) (i : ℕ) (x : X) → IsFirstFrom f n xs i → Some x ≡ slice_get xs i → f x ≡ n → Some i ≡ position (λ y. f y == n) xs
  from-here n xs i x first at same =
      let low : i < length xs = slice_get_within xs i x (sym at) in
      let here : get_or xs i x ≡ x = get_or_from_slice_get xs i x x (sym at) in
      placed (λ y. f y == n) xs i low (
      position_or_len_is (λ y. f y == n) xs i x (omega arith)
      (λ k l. below-apart n _ (first.0 k x (omega arith) l))
      (λ l. eq-eqb _ n (ap f here ∙ same))
      )

  pub from-other : (n : ℕ) (xs : List X) (i : ℕ) (x : X) → Rises f xs → IsFirstFrom f n xs i → Some x ≡ slice_get xs i → (f x ≡ n → ⊥) → None ≡ position (λ y. f y == n) xs
  from-other n xs i x rises first at apart =
      unplaced (λ y. f y == n) xs (
      position_or_len_is (λ y. f y == n) xs (length xs) x (omega arith) (λ k l. none k l) (λ l. absurd (omega arith))
      )
    where
      here : get_or xs i x ≡ x
      here = get_or_from_slice_get xs i x x (sym at)

      low : i < length xs
      low = slice_get_within xs i x (sym at)

      above : n < f x
      above =
          let from : n ≤ f (get_or xs i x) = ltb-false _ n (first.1 i x (omega arith) low) in
          let from_x : n ≤ f x = subst (λ y. n ≤ f y) here from in
          let other : f x ≡ n → ⊥ = apart in
          omega (arith, other)

      none : (k : ℕ) → k < length xs → (f (get_or xs k x) == n) ≡ false
      none k l = elim (nat_lt k i) as (λ t. nat_lt k i ≡ t → (f (get_or xs k x) == n) ≡ false) [
        | true ↦ λ e. below-apart n _ (first.0 k x (omega arith) (ltb-true k i e))
        | false ↦ λ e.
            let up : f (get_or xs i x) ≤ f (get_or xs k x) = rises-up f xs rises i k x (ltb-false k i e) l in
            let up_x : f x ≤ f (get_or xs k x) = subst (λ y. f y ≤ f (get_or xs k x)) here up in
            ne_eqb _ n (λ same. omega (arith, above))
      ] refl

  pub from-past : (n : ℕ) (xs : List X) (i : ℕ) → IsFirstFrom f n xs i → None ≡ slice_get xs i → None ≡ position (λ y. f y == n) xs
  from-past n [] i first at = refl
  from-past n (x ∷ xs) i first at =
      unplaced (λ y. f y == n) (x ∷ xs) (
      position_or_len_is (λ y. f y == n) (x ∷ xs) (length (x ∷ xs)) x (omega arith)
      (λ k l. below-apart n _ (first.0 k x (omega arith) (before k l)))
      (λ l. absurd (omega arith))
      )
    where
      before : (k : ℕ) → k < length (x ∷ xs) → k < i
      before k l = elim (nat_lt i (length (x ∷ xs))) as (λ t. nat_lt i (length (x ∷ xs)) ≡ t → k < i) [
        | true ↦ λ e. none_some _ (at ∙ slice_get-get_or (x ∷ xs) i x (lt_of _ _ e))
        | false ↦ λ e. let past : length (x ∷ xs) ≤ i = ge_of _ _ e in omega arith
      ] refl

  -- the numbers decide whether they rise

  above-numbers : (n : ℕ) (xs : List X) → AllAbove f n xs → AllAbove (λ m. m) n (map f xs)
  above-numbers n [] all = tt
  above-numbers n (x ∷ xs) all = (all.0, above-numbers n xs all.1)

  numbers-above : (n : ℕ) (xs : List X) → AllAbove (λ m. m) n (map f xs) → AllAbove f n xs
  numbers-above n [] all = tt
  numbers-above n (x ∷ xs) all = (all.0, numbers-above n xs all.1)

  rising-numbers : (xs : List X) → Rises f xs → Rises (λ m. m) (map f xs)
  rising-numbers [] r = tt
  rising-numbers (x ∷ xs) r = (above-numbers (f x) xs r.0, rising-numbers xs r.1)

  numbers-rising : (xs : List X) → Rises (λ m. m) (map f xs) → Rises f xs
  numbers-rising [] r = tt
  numbers-rising (x ∷ xs) r = (numbers-above (f x) xs r.0, numbers-rising xs r.1)

  pub same-rise : (xs ys : List X) → map f ys ≡ map f xs → Rises f xs → Rises f ys
  same-rise xs ys same r = numbers-rising ys (subst (Rises (λ m. m)) (sym same) (rising-numbers xs r))

  -- one more

  above-more : (n : ℕ) (xs : List X) (x : X) → AllAbove f n xs → n < f x → AllAbove f n (xs ++ x ∷ [])
  above-more n [] x all low = (low, tt)
  above-more n (y ∷ ys) x all low = (all.0, above-more n ys x all.1 low)

  above_at : (n : ℕ) (xs : List X) (i : ℕ) (l : X) → AllAbove f n xs → Some l ≡ slice_get xs i → n < f l
  above_at n [] i l all at = some_none l at
  above_at n (x ∷ xs) zero l all at = subst (λ z. n < f z) (sym (some_same _ _ at)) all.0
  above_at n (x ∷ xs) (suc i) l all at = above_at n xs i l all.1 at

  pub rises-more : (xs : List X) (i : ℕ) (l x : X) → Rises f xs → Some l ≡ slice_get xs i → length xs ≤ suc i → f l < f x → Rises f (xs ++ x ∷ [])
  rises-more [] i l x r at end low = (tt, tt)
  rises-more (y ∷ []) zero l x r at end low =
      let same : l ≡ y = some_same l y at in ((subst (λ z. f z < f x) same low, tt), (tt, tt))
  rises-more (y ∷ z ∷ zs) zero l x r at end low = absurd (omega (arith, end))
  rises-more (y ∷ ys) (suc i) l x r at end low =
      let first : f y < f l = above_at (f y) ys i l r.0 at in
      (above-more (f y) ys x r.0 (omega (arith, low)), rises-more ys i l x r.1 at (omega (arith, end)) low)

-- ---- records

pub still_more : (rising : Bool) (ts : List TxnRecord) (l t : TxnRecord) → RisesIf rising ts → Some l ≡ slice_get ts (length ts - 1) → rising ≡ true → RisesIf (nat_lt l.txn.0 t.txn.0) (ts ++ t ∷ [])
still_more true ts l t r at known =
    elim (nat_lt l.txn.0 t.txn.0) as (λ b. nat_lt l.txn.0 t.txn.0 ≡ b → RisesIf b (ts ++ t ∷ [])) [
      | true ↦ λ e. rises-more record_number ts (length ts - 1) l t r at (omega arith) (lt_of _ _ e)
      | false ↦ λ e. tt
    ] refl
still_more false ts l t r at known = absurd (cc)

changed_at : (n : ℕ) (f : TxnRecord → TxnRecord) (ts : List TxnRecord) (i : ℕ) (old : TxnRecord) → i ≡ position_or_len (λ t. t.txn.0 == n) ts → i < length ts → old ≡ get_or ts i old → set ts i (f old) ≡ with_record n f ts
changed_at n f [] i old at low is = absurd (omega arith)
changed_at n f (t ∷ ts) i old at low is =
    elim (t.txn.0 == n) as (λ b. (t.txn.0 == n) ≡ b → i ≡ cond (not b) (1 + position_or_len (λ u. u.txn.0 == n) ts) 0 → set (t ∷ ts) i (f old) ≡ cond b (f t ∷ ts) (t ∷ with_record n f ts)) [
      | true ↦ λ e here. subst (λ k. old ≡ get_or (t ∷ ts) k old → set (t ∷ ts) k (f old) ≡ f t ∷ ts) (sym here) (λ h. ap (λ z. f z ∷ ts) h) is
      | false ↦ λ e here.
          let j = position_or_len (λ u. u.txn.0 == n) ts in
          let next : 1 + j ≡ suc j = omega arith in
          subst (λ k. k < length (t ∷ ts) → old ≡ get_or (t ∷ ts) k old → set (t ∷ ts) k (f old) ≡ t ∷ with_record n f ts) (sym (here ∙ next))
          (λ l h. ap (λ zs. t ∷ zs) (changed_at n f ts j old refl (omega (arith, l)) h)) low is
    ] refl at

-- the one that was found, changed where it stands
pub changed : (n : ℕ) (f : TxnRecord → TxnRecord) (ts : List TxnRecord) (i : ℕ) (old : TxnRecord) → Some i ≡ position (λ t. t.txn.0 == n) ts → old ≡ get_or ts i old → set ts i (f old) ≡ with_record n f ts
changed n f ts i old h is =
    let k = place_of (λ t. t.txn.0 == n) ts i h in changed_at n f ts i old k.at k.low is

kept : (n : ℕ) (f : TxnRecord → TxnRecord) (ts : List TxnRecord) → length ts ≤ position_or_len (λ t. t.txn.0 == n) ts → ts ≡ with_record n f ts
kept n f [] h = refl
kept n f (t ∷ ts) h =
    elim (t.txn.0 == n) as (λ b. (t.txn.0 == n) ≡ b → length (t ∷ ts) ≤ cond (not b) (1 + position_or_len (λ u. u.txn.0 == n) ts) 0 → t ∷ ts ≡ cond b (f t ∷ ts) (t ∷ with_record n f ts)) [
      | true ↦ λ e g. absurd (omega (arith, g))
      | false ↦ λ e g. ap (λ zs. t ∷ zs) (kept n f ts (omega (arith, g)))
    ] refl h

-- where there is none of the number, nothing changes
pub unchanged : (n : ℕ) (f : TxnRecord → TxnRecord) (ts : List TxnRecord) → None ≡ position (λ t. t.txn.0 == n) ts → ts ≡ with_record n f ts
unchanged n f ts h = kept n f ts (past_all (λ t. t.txn.0 == n) ts h)

last-after : (f : TxnRecord → TxnRecord) (t : TxnRecord) (ts : List TxnRecord) (i : ℕ) (old : TxnRecord) → i ≡ length ts → old ≡ get_or (t ∷ ts) i old → set (t ∷ ts) i (f old) ≡ with_last_after f t ts
last-after f t [] zero old h is = ap (λ z. f z ∷ []) is
last-after f t [] (suc i) old h is = absurd (omega (arith, h))
last-after f t (u ∷ us) zero old h is = absurd (omega (arith, h))
last-after f t (u ∷ us) (suc i) old h is = ap (λ zs. t ∷ zs) (last-after f u us i old (omega (arith, h)) is)

-- the last, changed where it stands
pub last-changed : (f : TxnRecord → TxnRecord) (ts : List TxnRecord) (i : ℕ) (old : TxnRecord) → i ≡ length ts - 1 → 0 < length ts → old ≡ get_or ts i old → set ts i (f old) ≡ with_last f ts
last-changed f [] i old here some is = absurd (omega arith)
last-changed f (t ∷ ts) i old here some is = last-after f t ts i old (omega (arith, here)) is

-- a status changes no number

numbers-record : (n : ℕ) (s : RecordStatus) (ts : List TxnRecord) → map record_number (with_record n (with_status s) ts) ≡ map record_number ts
numbers-record n s [] = refl
numbers-record n s (t ∷ ts) =
    elim (t.txn.0 == n) as (λ b. map record_number (cond b (with_status s t ∷ ts) (t ∷ with_record n (with_status s) ts)) ≡ map record_number (t ∷ ts)) [
      | true ↦ refl
      | false ↦ ap (λ ns. record_number t ∷ ns) (numbers-record n s ts)
    ]

numbers-after : (s : RecordStatus) (t : TxnRecord) (ts : List TxnRecord) → map record_number (with_last_after (with_status s) t ts) ≡ map record_number (t ∷ ts)
numbers-after s t [] = refl
numbers-after s t (u ∷ us) = ap (λ ns. record_number t ∷ ns) (numbers-after s u us)

numbers-last : (s : RecordStatus) (ts : List TxnRecord) → map record_number (with_last (with_status s) ts) ≡ map record_number ts
numbers-last s [] = refl
numbers-last s (t ∷ ts) = numbers-after s t ts

still-same : (rising : Bool) (ts us : List TxnRecord) → map record_number us ≡ map record_number ts → RisesIf rising ts → RisesIf rising us
still-same true ts us same r = same-rise record_number ts us same r
still-same false ts us same r = tt

pub still_record : (rising : Bool) (n : ℕ) (s : RecordStatus) (ts us : List TxnRecord) → us ≡ with_record n (with_status s) ts → RisesIf rising ts → RisesIf rising us
still_record rising n s ts us is r = still-same rising ts us (ap (map record_number) is ∙ numbers-record n s ts) r

pub still_last : (rising : Bool) (s : RecordStatus) (ts us : List TxnRecord) → us ≡ with_last (with_status s) ts → RisesIf rising ts → RisesIf rising us
still_last rising s ts us is r = still-same rising ts us (ap (map record_number) is ∙ numbers-last s ts) r
