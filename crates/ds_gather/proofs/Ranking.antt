-- What is sorted by start and number is in key order, and what starts at one key stands as it came.
use Rattle.std.proofs.Common.{◌≡◌, ℕ, zero, suc, ◌+◌, ◌<◌, ◌≤◌, Bool, true, false, cond, List, [], ◌∷◌, ◌++◌, filter, length, take, get_or, refl, sym, ap, ◌∙◌, subst, arith, Ordering, nat_lt, ◌==◌, eq-eqb, ne_eqb, eqb-true}
use Rattle.std.specs.List.Sorted.{IsPermutation, IsSortedBy}
use Rattle.std.specs.Ordering.{is_lt, nat_cmp, ordering_then}
use Rattle.std.specs.declared.cmp.Ordering.TheVariants.{Less, Equal, Greater}
use Rattle.std.proofs.lemmas.List.Sorted.{IsPermutation-sym}
use Rattle.std.proofs.lemmas.Bool.Decides.{nat_tests}
use Rattle.ds_base.specs.Order.{key_cmp, key_lt, key_le}
use Rattle.ds_base.specs.Ordered.{key_eq, AllFrom}
use Rattle.ds_base.proofs.OrderedFacts.{le_of_not_lt, not_lt_of_le, eq_same}
use Rattle.ds_base.proofs.SmallFacts.{lt_of, ge_of}
use Rattle.ds_base.proofs.KeyFacts.{from_lower}
use Rattle.ds_kind.specs.Bodies.{put_in_order, in_order}
use Rattle.ds_cover.specs.Chains.{one_if, times_keyed, Sorts, KeysDiffer}
use Rattle.ds_cover.proofs.InOrder.{differ-moved, differ-ascend, ascends-sorted, same_members, moved-in, in-sorted, sorted-in, sorts}
use Rattle.ds_cover.proofs.Tests.{not_both}
use Rattle.ds_gather.specs.Gathered.{start_of}
use Rattle.ds_gather.specs.Numbered.{came_in, numbered, then_number, rank, AreNumbered}
use Rattle.ds_gather.specs.declared.arrival.Arrival.{Arrival}
use Rattle.ds_gather.specs.declared.came.Came.{Came}

-- a key with a number after it is compared by the key, then by the number

only_number : (n m : ℕ) → nat_cmp n m ≡ ordering_then (nat_cmp n m) Equal
only_number n m = keeps (nat_cmp n m)
  where
    keeps : (o : Ordering) → o ≡ ordering_then o Equal
    keeps Less = refl
    keeps Equal = refl
    keeps Greater = refl

lt_up : (n m : ℕ) → n < m → nat_lt (suc n) (suc m) ≡ true
lt_up n m h = grind (arith, nat_tests, h)

ge_up : (n m : ℕ) → m ≤ n → nat_lt (suc n) (suc m) ≡ false
ge_up n m h = grind (arith, nat_tests, h)

lt_suc : (n m : ℕ) → nat_lt (suc n) (suc m) ≡ nat_lt n m
lt_suc n m =
    elim (nat_lt n m) as (λ t. nat_lt n m ≡ t → nat_lt (suc n) (suc m) ≡ t) [
      | true ↦ λ e. lt_up n m (lt_of n m e)
      | false ↦ λ e. ge_up n m (ge_of n m e)
    ] refl

ne_up : (n m : ℕ) → (n == m) ≡ false → suc n ≡ suc m → ⊥
ne_up n m h e = not_both (n == m) (eq-eqb n m (same n m e)) h
  where
    same : (n m : ℕ) → suc n ≡ suc m → n ≡ m
    same n m e = omega (arith, e)

eq_suc : (n m : ℕ) → (suc n == suc m) ≡ (n == m)
eq_suc n m =
    elim (n == m) as (λ t. (n == m) ≡ t → (suc n == suc m) ≡ t) [
      | true ↦ λ e. eq-eqb (suc n) (suc m) (ap (λ k. suc k) (eqb-true n m e))
      | false ↦ λ e. ne_eqb (suc n) (suc m) (ne_up n m e)
    ] refl

under_suc : (n m : ℕ) → nat_cmp (suc n) (suc m) ≡ nat_cmp n m
under_suc n m =
    ap (λ t. cond t Less (cond (suc n == suc m) Equal Greater)) (lt_suc n m)
    ∙ ap (λ t. cond (nat_lt n m) Less (cond t Equal Greater)) (eq_suc n m)

zero_less : (m : ℕ) → Less ≡ nat_cmp 0 (suc m)
zero_less m = ap (λ t. cond t Less (cond (0 == suc m) Equal Greater)) (sym (low m))
  where
    low : (m : ℕ) → nat_lt 0 (suc m) ≡ true
    low m = grind (arith, nat_tests)

more_than_zero : (n : ℕ) → Greater ≡ nat_cmp (suc n) 0
more_than_zero n =
    ap (λ t. cond t Equal Greater) (sym (ne_eqb (suc n) 0 (other n)))
    ∙ ap (λ t. cond t Less (cond (suc n == 0) Equal Greater)) (sym (high n))
  where
    high : (n : ℕ) → nat_lt (suc n) 0 ≡ false
    high n = grind (arith, nat_tests)

    other : (n : ℕ) → suc n ≡ 0 → ⊥
    other n e = omega (arith, e)

then_assoc : (a b c : Ordering) → ordering_then a (ordering_then b c) ≡ ordering_then (ordering_then a b) c
then_assoc Less b c = refl
then_assoc Equal b c = refl
then_assoc Greater b c = refl

by_both : (a b : List ℕ) (n m : ℕ) → ordering_then (key_cmp a b) (nat_cmp n m) ≡ key_cmp (then_number a n) (then_number b m)
by_both [] [] n m = only_number n m
by_both [] (y ∷ ys) n m = ap (λ o. ordering_then o (key_cmp (n ∷ []) (then_number ys m))) (zero_less y)
by_both (x ∷ xs) [] n m = ap (λ o. ordering_then o (key_cmp (then_number xs n) (m ∷ []))) (more_than_zero x)
by_both (x ∷ xs) (y ∷ ys) n m =
    sym (then_assoc (nat_cmp x y) (key_cmp xs ys) (nat_cmp n m))
    ∙ ap (ordering_then (nat_cmp x y)) (by_both xs ys n m)
    ∙ ap (λ o. ordering_then o (key_cmp (then_number xs n) (then_number ys m))) (sym (under_suc x y))

pub rank_then : (c d : Came) → ordering_then (key_cmp c.arrival.start d.arrival.start) (nat_cmp c.number d.number) ≡ key_cmp (rank c) (rank d)
rank_then c d = by_both c.arrival.start d.arrival.start c.number d.number

-- no two have one rank

last_of : List ℕ → ℕ
last_of [] = 0
last_of (n ∷ []) = n
last_of (n ∷ m ∷ ns) = last_of (m ∷ ns)

its_number : (k : List ℕ) (n : ℕ) → last_of (then_number k n) ≡ n
unfolding last_of
its_number [] n = refl
its_number (x ∷ []) n = refl
its_number (x ∷ y ∷ ys) n = its_number (y ∷ ys) n

none_plus : (n : ℕ) → n ≡ 0 → 0 + n ≡ 0
none_plus n h = omega (arith, h)

one_and_none : (n : ℕ) → n ≡ 0 → 1 + n ≤ 1
one_and_none n h = omega (arith, h)

none_and_one : (n : ℕ) → n ≤ 1 → 0 + n ≤ 1
none_and_one n h = omega (arith, h)

later : (n m : ℕ) → m < n → m < suc n
later n m h = omega (arith, h)

at_itself : (n m : ℕ) → n ≡ m → m < n → ⊥
at_itself n m e h = omega (arith, e, h)

itself_later : (n m : ℕ) → n ≡ m → m < suc n
itself_later n m e = omega (arith, e)

number_is : (k : List ℕ) (n : ℕ) (a : Arrival) → key_eq (rank (record { number = n; arrival = a })) k ≡ true → n ≡ last_of k
number_is k n a e = sym (its_number a.start n) ∙ ap last_of (eq_same (then_number a.start n) k e)

none_ranked : (k : List ℕ) (n : ℕ) (xs : List Arrival) → last_of k < n → times_keyed rank k (numbered n xs) ≡ 0
none_ranked k n [] low = refl
none_ranked k n (a ∷ xs) low =
    elim (key_eq (then_number a.start n) k) as (λ t. key_eq (then_number a.start n) k ≡ t → one_if t + times_keyed rank k (numbered (suc n) xs) ≡ 0) [
      | true ↦ λ e. absurd (at_itself n (last_of k) (number_is k n a e) low)
      | false ↦ λ e. none_plus _ (none_ranked k (suc n) xs (later n (last_of k) low))
    ] refl

ranks_differ : (n : ℕ) (xs : List Arrival) → KeysDiffer rank (numbered n xs)
ranks_differ n [] k = omega arith
ranks_differ n (a ∷ xs) k =
    elim (key_eq (then_number a.start n) k) as (λ t. key_eq (then_number a.start n) k ≡ t → one_if t + times_keyed rank k (numbered (suc n) xs) ≤ 1) [
      | true ↦ λ e. one_and_none _ (none_ranked k (suc n) xs (itself_later n (last_of k) (number_is k n a e)))
      | false ↦ λ e. none_and_one _ (ranks_differ (suc n) xs k)
    ] refl

-- a list in which none is below the one before it

add_one : (n : ℕ) → suc n ≡ n + 1
add_one n = omega arith

below_suc : (n m : ℕ) → n + 1 < m → suc n + 1 < suc m
below_suc n m h = omega (arith, h)

abbrev pub by_rank : Came → Came → Bool
by_rank c d = is_lt (key_cmp (rank c) (rank d))

tail_sorted : (c : Came) (cs : List Came) → IsSortedBy by_rank (c ∷ cs) → IsSortedBy by_rank cs
tail_sorted c cs h k d low high =
    let at : by_rank (get_or (c ∷ cs) (suc k + 1) d) (get_or (c ∷ cs) (suc k) d) ≡ false = h (suc k) d (omega arith) (below_suc k (length cs) high) in
    let P : ℕ → Type 0 = λ n. by_rank (get_or (c ∷ cs) n d) (get_or (c ∷ cs) (suc k) d) ≡ false in
    let there : P (suc (k + 1)) = subst P (moved k) at in
    there
  where
    moved : (k : ℕ) → suc k + 1 ≡ suc (k + 1)
    moved k = omega arith

first_two : (c d : Came) (cs : List Came) → IsSortedBy by_rank (c ∷ d ∷ cs) → key_le (rank c) (rank d) ≡ true
first_two c d cs h =
    let P : ℕ → Type 0 = λ n. by_rank (get_or (c ∷ d ∷ cs) n c) c ≡ false in
    let at : P 1 = h 0 c (omega arith) (omega arith) in
    le_of_not_lt (rank d) (rank c) at

by_steps : (cs : List Came) → IsSortedBy by_rank cs → Sorts rank cs
by_steps [] h = tt
by_steps (c ∷ []) h = (tt, tt)
by_steps (c ∷ d ∷ cs) h =
    let rest = by_steps (d ∷ cs) (tail_sorted c (d ∷ cs) h) in
    let low = first_two c d cs h in
    ((low, from_lower rank (rank c) (rank d) cs low rest.0), rest)

-- in the order of ranks the answers are in key order

abbrev AllLater : ℕ → List Came → Type 0
AllLater n [] = Unit {0}
AllLater n (c ∷ cs) = (n < c.number) × AllLater n cs

later_put : (n : ℕ) (c : Came) (cs : List Came) → n < c.number → AllLater n cs → AllLater n (put_in_order rank c cs)
later_put n c [] h all = (h, tt)
later_put n c (d ∷ ds) h all =
    elim (key_lt (rank d) (rank c)) as (λ t. AllLater n (cond t (d ∷ put_in_order rank c ds) (c ∷ d ∷ ds))) [
      | true ↦ (all.0, later_put n c ds h all.1)
      | false ↦ (h, all)
    ]

later_all : (n m : ℕ) (xs : List Arrival) → n < m → AllLater n (in_order rank (numbered m xs))
later_all n m [] h = tt
later_all n m (a ∷ xs) h = later_put n (record { number = m; arrival = a }) (in_order rank (numbered (suc m) xs)) h (later_all n (suc m) xs (later m n h))

greater : (n m : ℕ) → n < m → is_lt (nat_cmp m n) ≡ false
greater n m h = grind (arith, nat_tests)

by_start : (o p : Ordering) → is_lt p ≡ false → is_lt (ordering_then o p) ≡ is_lt o
by_start Less p h = refl
by_start Equal p h = h
by_start Greater p h = refl

before_later : (c d : Came) → c.number < d.number → key_lt (rank d) (rank c) ≡ key_lt d.arrival.start c.arrival.start
before_later c d h =
    ap is_lt (sym (rank_then d c)) ∙ by_start (key_cmp d.arrival.start c.arrival.start) (nat_cmp d.number c.number) (greater c.number d.number h)

put_when : (c d : Came) (ds : List Came) (t : Bool) → came_in (put_in_order rank c ds) ≡ put_in_order start_of c.arrival (came_in ds) → came_in (cond t (d ∷ put_in_order rank c ds) (c ∷ d ∷ ds)) ≡ cond t (d.arrival ∷ put_in_order start_of c.arrival (came_in ds)) (c.arrival ∷ d.arrival ∷ came_in ds)
put_when c d ds true h = ap (λ z. d.arrival ∷ z) h
put_when c d ds false h = refl

put_so : (c : Came) (cs : List Came) → AllLater c.number cs → came_in (put_in_order rank c cs) ≡ put_in_order start_of c.arrival (came_in cs)
put_so c [] all = refl
put_so c (d ∷ ds) all =
    ap (λ t. came_in (cond t (d ∷ put_in_order rank c ds) (c ∷ d ∷ ds))) (before_later c d all.0)
    ∙ put_when c d ds (key_lt d.arrival.start c.arrival.start) (put_so c ds all.1)

ordered_so : (n : ℕ) (xs : List Arrival) → came_in (in_order rank (numbered n xs)) ≡ in_order start_of xs
ordered_so n [] = refl
ordered_so n (a ∷ xs) =
    put_so (record { number = n; arrival = a }) (in_order rank (numbered (suc n) xs)) (later_all n (suc n) xs (itself_later n n refl))
    ∙ ap (put_in_order start_of a) (ordered_so (suc n) xs)

pub sorted_so : (xs ys : List Came) → AreNumbered xs → IsPermutation xs ys → IsSortedBy by_rank ys → came_in ys ≡ in_order start_of (came_in xs)
sorted_so xs ys are moved sorted =
    let apart : KeysDiffer rank xs = subst (KeysDiffer rank) (sym are) (ranks_differ 0 (came_in xs)) in
    let same : ys ≡ in_order rank xs =
    same_members rank ys (in_order rank xs)
    (differ-ascend rank ys (by_steps ys sorted) (differ-moved rank xs ys moved apart)) (ascends-sorted rank xs apart)
    (λ z h. sorted-in rank xs z (moved-in xs ys moved z h))
    (λ z h. moved-in ys xs (IsPermutation-sym xs ys moved) z (in-sorted rank xs z h)) in
    ap came_in same ∙ ap (λ cs. came_in (in_order rank cs)) are ∙ ordered_so 0 (came_in xs)

-- what is kept of things in order is in order

from_kept : {X : Type 0} (key : X → List ℕ) (k : List ℕ) (p : X → Bool) (xs : List X) → AllFrom key k xs → AllFrom key k (filter p xs)
from_kept key k p [] all = tt
from_kept key k p (x ∷ xs) all =
    elim (p x) as (λ t. AllFrom key k (cond t (x ∷ filter p xs) (filter p xs))) [
      | true ↦ (all.0, from_kept key k p xs all.1)
      | false ↦ from_kept key k p xs all.1
    ]

put_first : {X : Type 0} (key : X → List ℕ) (a : X) (xs : List X) → AllFrom key (key a) xs → put_in_order key a xs ≡ a ∷ xs
put_first key a [] all = refl
put_first key a (x ∷ xs) all = ap (λ t. cond t (x ∷ put_in_order key a xs) (a ∷ x ∷ xs)) (not_lt_of_le (key a) (key x) all.0)

kept_put : {X : Type 0} (key : X → List ℕ) (p : X → Bool) (a : X) (xs : List X) → Sorts key xs → filter p (put_in_order key a xs) ≡ cond (p a) (put_in_order key a (filter p xs)) (filter p xs)
kept_put key p a [] s = refl
kept_put key p a (b ∷ bs) s =
    elim (key_lt (key b) (key a)) as (λ t. key_lt (key b) (key a) ≡ t → filter p (cond t (b ∷ put_in_order key a bs) (a ∷ b ∷ bs)) ≡ cond (p a) (put_in_order key a (filter p (b ∷ bs))) (filter p (b ∷ bs))) [
      | true ↦ λ e. ap (λ zs. cond (p b) (b ∷ zs) zs) (kept_put key p a bs s.1) ∙ under (p a) (p b) e
      | false ↦ λ e.
          let low = le_of_not_lt (key b) (key a) e in
          ap (λ zs. cond (p a) zs (filter p (b ∷ bs)))
          (sym (put_first key a (filter p (b ∷ bs)) (from_kept key (key a) p (b ∷ bs) (low, from_lower key (key a) (key b) bs low s.0))))
    ] refl
  where
    under : (t u : Bool) → key_lt (key b) (key a) ≡ true
        → cond u (b ∷ cond t (put_in_order key a (filter p bs)) (filter p bs)) (cond t (put_in_order key a (filter p bs)) (filter p bs))
        ≡ cond t (put_in_order key a (cond u (b ∷ filter p bs) (filter p bs))) (cond u (b ∷ filter p bs) (filter p bs))
    under true true e = sym (ap (λ v. cond v (b ∷ put_in_order key a (filter p bs)) (a ∷ b ∷ filter p bs)) e)
    under true false e = refl
    under false true e = refl
    under false false e = refl

pub kept_order : {X : Type 0} (key : X → List ℕ) (p : X → Bool) (xs : List X) → filter p (in_order key xs) ≡ in_order key (filter p xs)
kept_order key p [] = refl
kept_order key p (x ∷ xs) =
    kept_put key p x (in_order key xs) (sorts key xs) ∙ ap (λ zs. cond (p x) (put_in_order key x zs) zs) (kept_order key p xs)
    ∙ split (p x)
  where
    split : (t : Bool) → cond t (put_in_order key x (in_order key (filter p xs))) (in_order key (filter p xs)) ≡ in_order key (cond t (x ∷ filter p xs) (filter p xs))
    split true = refl
    split false = refl

-- numbers, of one more and of the first ones

from_there : (n m : ℕ) → n + suc m ≡ suc n + m
from_there n m = omega arith

one_longer : (n : ℕ) (xs : List Arrival) (a : Arrival) → numbered n (xs ++ a ∷ []) ≡ numbered n xs ++ record { number = n + length xs; arrival = a } ∷ []
one_longer n [] a = ap (λ m. record { number = m; arrival = a } ∷ []) (plus_none n)
  where
    plus_none : (n : ℕ) → n ≡ n + 0
    plus_none n = omega arith
one_longer n (b ∷ bs) a =
    ap (λ z. record { number = n; arrival = b } ∷ z)
    (one_longer (suc n) bs a ∙ ap (λ m. numbered (suc n) bs ++ record { number = m; arrival = a } ∷ []) (sym (from_there n (length bs))))

pub came_push : (cs : List Came) (c : Came) → came_in (cs ++ c ∷ []) ≡ came_in cs ++ c.arrival ∷ []
came_push [] c = refl
came_push (d ∷ ds) c = ap (λ z. d.arrival ∷ z) (came_push ds c)

pub came_length : (cs : List Came) → length (came_in cs) ≡ length cs
came_length [] = refl
came_length (c ∷ cs) = ap (λ n. suc n) (came_length cs)

pub came_take : (n : ℕ) (cs : List Came) → came_in (take n cs) ≡ take n (came_in cs)
came_take zero [] = refl
came_take (suc n) [] = refl
came_take zero (c ∷ cs) = refl
came_take (suc n) (c ∷ cs) = ap (λ z. c.arrival ∷ z) (came_take n cs)

take_numbered : (n m : ℕ) (xs : List Arrival) → take n (numbered m xs) ≡ numbered m (take n xs)
take_numbered zero m [] = refl
take_numbered (suc n) m [] = refl
take_numbered zero m (a ∷ xs) = refl
take_numbered (suc n) m (a ∷ xs) = ap (λ z. record { number = m; arrival = a } ∷ z) (take_numbered n (suc m) xs)

pub numbered_take : (n : ℕ) (cs : List Came) → AreNumbered cs → AreNumbered (take n cs)
numbered_take n cs are = ap (take n) are ∙ take_numbered n 0 (came_in cs) ∙ ap (numbered 0) (sym (came_take n cs))

pub numbered_push : (cs : List Came) (c : Came) → AreNumbered cs → c.number ≡ length cs → AreNumbered (cs ++ c ∷ [])
numbered_push cs c are count =
    ap (λ z. z ++ c ∷ []) are
    ∙ ap (λ n. numbered 0 (came_in cs) ++ record { number = n; arrival = c.arrival } ∷ []) (count ∙ sym (came_length cs) ∙ plus_zero (length (came_in cs)))
    ∙ sym (one_longer 0 (came_in cs) c.arrival)
    ∙ ap (numbered 0) (sym (came_push cs c))
  where
    plus_zero : (n : ℕ) → n ≡ 0 + n
    plus_zero n = omega arith
