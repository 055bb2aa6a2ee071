-- What every order keeps, and how a node is taken out of those that wait.
use Rattle.std.proofs.Common.{◌≡◌, ℕ, zero, suc, ◌+◌, ◌<◌, ◌≤◌, ◌==◌, Bool, true, false, not, cond, ◌||◌, List, [], ◌∷◌, Some, None, length, slice_get, get_or, nat_lt, refl, sym, ap, ◌∙◌, arith, subst}
use Rattle.std.specs.List.{list_any, list_all, remove, position, position_or_len}
use Rattle.std.proofs.lemmas.Bool.Decides.{nat_tests}
use Rattle.std.proofs.lemmas.List.Quantifiers.{position-Some}
use Rattle.std.proofs.lemmas.Option.{slice_get-get_or}
use Rattle.std.proofs.lemmas.Map.Views.{any-filter_same}
use Rattle.ds_base.proofs.SmallFacts.{and_first, and_second, and_both, not_true, or_first, or_second, or_right, none_some, some_none, some_same, le_of}
use Rattle.ds_desc.specs.Replicas.{no_twice, are_replicas}
use Rattle.ds_lease.specs.Turns.{IsOrder, is_among, without_node}

-- tests on nodes

equals_itself : (n : ℕ) → (n == n) ≡ true
equals_itself n = grind (arith, nat_tests)

equal : (m n : ℕ) → (m == n) ≡ true → m ≡ n
equal m n h = grind (arith, nat_tests)

never : {G : Type 0} (b : Bool) → b ≡ true → b ≡ false → G
never b p q = cc

-- nodes of a list

among_at : (n i : ℕ) (xs : List ℕ) → slice_get xs i ≡ Some n → is_among n xs ≡ true
among_at n i [] h = none_some n h
among_at n zero (x ∷ xs) h = subst (λ y. (y == n) || is_among n xs ≡ true) (sym (some_same x n h)) (ap (λ t. t || is_among n xs) (equals_itself n))
among_at n (suc i) (x ∷ xs) h = or_right (x == n) (is_among n xs) (among_at n i xs h)

-- nothing is taken out where the node isn't there
without_none : (n : ℕ) (xs : List ℕ) → is_among n xs ≡ false → without_node n xs ≡ xs
without_none n [] h = refl
without_none n (x ∷ xs) h =
    ap (λ t. cond (not t) (x ∷ without_node n xs) (without_node n xs)) (or_first (x == n) (is_among n xs) h)
    ∙ ap (λ ys. x ∷ ys) (without_none n xs (or_second (x == n) (is_among n xs) h))

-- the node taken out of its place
pub without_at : (n i : ℕ) (xs : List ℕ) → no_twice xs ≡ true → slice_get xs i ≡ Some n → remove xs i ≡ without_node n xs
without_at n i [] once h = none_some n h
without_at n zero (x ∷ xs) once h =
    let same : x ≡ n = some_same x n h in
    let alone : is_among n xs ≡ false = subst (λ y. is_among y xs ≡ false) same (not_true (is_among x xs) (and_first (not (is_among x xs)) (no_twice xs) once)) in
    let here : (x == n) ≡ true = ap (λ y. y == n) same ∙ equals_itself n in
    sym (ap (λ t. cond (not t) (x ∷ without_node n xs) (without_node n xs)) here ∙ without_none n xs alone)
without_at n (suc i) (x ∷ xs) once h =
    let alone : is_among x xs ≡ false = not_true (is_among x xs) (and_first (not (is_among x xs)) (no_twice xs) once) in
    elim (x == n) as (λ t. (x == n) ≡ t → x ∷ remove xs i ≡ cond (not t) (x ∷ without_node n xs) (without_node n xs)) [
      | true ↦ λ e. never (is_among n xs) (among_at n i xs h) (subst (λ y. is_among y xs ≡ false) (equal x n e) alone)
      | false ↦ λ e. ap (λ ys. x ∷ ys) (without_at n i xs (and_second (not (is_among x xs)) (no_twice xs) once) h)
    ] refl

-- where a search finds the node, and that it isn't there where a search finds nothing

pub at_place : (n i : ℕ) (xs : List ℕ) → position (λ m. m == n) xs ≡ Some i → slice_get xs i ≡ Some n
at_place n i xs h =
    let found = position-Some (λ m. m == n) xs i 0 h in
    slice_get-get_or xs i 0 found.0 ∙ ap Some (equal (get_or xs i 0) n found.1)

first_below : (p : ℕ → Bool) (xs : List ℕ) → list_any p xs ≡ true → position_or_len p xs < length xs
first_below p [] h = never true refl (sym h)
first_below p (x ∷ xs) h =
    elim (p x) as (λ t. (t || list_any p xs) ≡ true → cond (not t) (1 + position_or_len p xs) 0 < suc (length xs)) [
      | true ↦ λ e. omega arith
      | false ↦ λ e. let rest : position_or_len p xs < length xs = first_below p xs e in omega arith
    ] h

pub without_absent : (n : ℕ) (xs : List ℕ) → position (λ m. m == n) xs ≡ None → without_node n xs ≡ xs
without_absent n xs h =
    elim (is_among n xs) as (λ t. is_among n xs ≡ t → without_node n xs ≡ xs) [
      | true ↦ λ e.
          let below : nat_lt (position_or_len (λ m. m == n) xs) (length xs) ≡ true = lt_test _ _ (first_below (λ m. m == n) xs e) in
          some_none _ (sym (ap (λ t. cond t (Some (position_or_len (λ m. m == n) xs)) None) below) ∙ h)
      | false ↦ λ e. without_none n xs e
    ] refl
  where
    lt_test : (a b : ℕ) → a < b → nat_lt a b ≡ true
    lt_test a b h = grind (arith, nat_tests)

-- the node isn't among those that are left
gone : (n : ℕ) (xs : List ℕ) → is_among n (without_node n xs) ≡ false
gone n xs = any-filter_same (λ m. m == n) (λ m. not (m == n)) false (λ m e. ap not e) xs

-- every other node still is
still_among : (m n : ℕ) (xs : List ℕ) → (m == n) ≡ false → is_among m (without_node n xs) ≡ is_among m xs
still_among m n xs other =
    any-filter_same (λ k. k == m) (λ k. not (k == n)) true (λ k e. subst (λ j. not (j == n) ≡ true) (sym (equal k m e)) (ap not other)) xs

-- a node that isn't there isn't among those that are left either
not_more : (m n : ℕ) (xs : List ℕ) → is_among m xs ≡ false → is_among m (without_node n xs) ≡ false
not_more m n xs none =
    elim (m == n) as (λ t. (m == n) ≡ t → is_among m (without_node n xs) ≡ false) [
      | true ↦ λ e. subst (λ j. is_among j (without_node n xs) ≡ false) (sym (equal m n e)) (gone n xs)
      | false ↦ λ e. still_among m n xs e ∙ none
    ] refl

once_without : (n : ℕ) (xs : List ℕ) → no_twice xs ≡ true → no_twice (without_node n xs) ≡ true
once_without n [] once = refl
once_without n (x ∷ xs) once =
    let rest : no_twice (without_node n xs) ≡ true = once_without n xs (and_second (not (is_among x xs)) (no_twice xs) once) in
    let alone : is_among x (without_node n xs) ≡ false = not_more x n xs (not_true (is_among x xs) (and_first (not (is_among x xs)) (no_twice xs) once)) in
    elim (x == n) as (λ t. no_twice (cond (not t) (x ∷ without_node n xs) (without_node n xs)) ≡ true) [
      | true ↦ rest
      | false ↦ and_both (not (is_among x (without_node n xs))) (no_twice (without_node n xs)) (ap not alone) rest
    ]

all_without : (p : ℕ → Bool) (n : ℕ) (xs : List ℕ) → list_all p xs ≡ true → list_all p (without_node n xs) ≡ true
all_without p n [] h = refl
all_without p n (x ∷ xs) h =
    let rest : list_all p (without_node n xs) ≡ true = all_without p n xs (and_second (p x) (list_all p xs) h) in
    elim (x == n) as (λ t. list_all p (cond (not t) (x ∷ without_node n xs) (without_node n xs)) ≡ true) [
      | true ↦ rest
      | false ↦ and_both (p x) (list_all p (without_node n xs)) (and_first (p x) (list_all p xs) h) rest
    ]

-- all of a list's nodes are among it

all_more : (x : ℕ) (ys xs : List ℕ) → list_all (λ n. is_among n ys) xs ≡ true → list_all (λ n. is_among n (x ∷ ys)) xs ≡ true
all_more x ys [] h = refl
all_more x ys (n ∷ xs) h =
    and_both ((x == n) || is_among n ys) (list_all (λ n. is_among n (x ∷ ys)) xs)
    (or_right (x == n) (is_among n ys) (and_first (is_among n ys) (list_all (λ n. is_among n ys) xs) h))
    (all_more x ys xs (and_second (is_among n ys) (list_all (λ n. is_among n ys) xs) h))

all_themselves : (xs : List ℕ) → list_all (λ n. is_among n xs) xs ≡ true
all_themselves [] = refl
all_themselves (x ∷ xs) =
    and_both ((x == x) || is_among x xs) (list_all (λ n. is_among n (x ∷ xs)) xs)
    (ap (λ t. t || is_among x xs) (equals_itself x))
    (all_more x xs xs (all_themselves xs))

-- nodes that each stand in a list, and none twice, are at most as many as the list's

all_others : (x : ℕ) (ys xs : List ℕ) → is_among x xs ≡ false → list_all (λ n. is_among n ys) xs ≡ true → list_all (λ n. is_among n (without_node x ys)) xs ≡ true
all_others x ys [] none h = refl
all_others x ys (n ∷ xs) none h =
    let other : (n == x) ≡ false = or_first (n == x) (is_among x xs) none in
    and_both (is_among n (without_node x ys)) (list_all (λ n. is_among n (without_node x ys)) xs)
    (still_among n x ys other ∙ and_first (is_among n ys) (list_all (λ n. is_among n ys) xs) h)
    (all_others x ys xs (or_second (n == x) (is_among x xs) none) (and_second (is_among n ys) (list_all (λ n. is_among n ys) xs) h))

no_longer : (n : ℕ) (xs : List ℕ) → length (without_node n xs) ≤ length xs
no_longer n [] = omega arith
no_longer n (x ∷ xs) =
    let rest : length (without_node n xs) ≤ length xs = no_longer n xs in
    elim (x == n) as (λ t. length (cond (not t) (x ∷ without_node n xs) (without_node n xs)) ≤ suc (length xs)) [
      | true ↦ omega arith
      | false ↦ omega arith
    ]

shorter : (n : ℕ) (xs : List ℕ) → is_among n xs ≡ true → length (without_node n xs) < length xs
shorter n [] h = never true refl (sym h)
shorter n (x ∷ xs) h =
    let most : length (without_node n xs) ≤ length xs = no_longer n xs in
    elim (x == n) as (λ t. (t || is_among n xs) ≡ true → length (cond (not t) (x ∷ without_node n xs) (without_node n xs)) < suc (length xs)) [
      | true ↦ λ e. omega arith
      | false ↦ λ e. let rest : length (without_node n xs) < length xs = shorter n xs e in omega arith
    ] h

at_most : (xs ys : List ℕ) → no_twice xs ≡ true → list_all (λ n. is_among n ys) xs ≡ true → length xs ≤ length ys
at_most [] ys once known = omega arith
at_most (x ∷ xs) ys once known =
    let alone : is_among x xs ≡ false = not_true (is_among x xs) (and_first (not (is_among x xs)) (no_twice xs) once) in
    let fewer : length (without_node x ys) < length ys = shorter x ys (and_first (is_among x ys) (list_all (λ n. is_among n ys) xs) known) in
    let rest : length xs ≤ length (without_node x ys) = at_most xs (without_node x ys) (and_second (not (is_among x xs)) (no_twice xs) once) (all_others x ys xs alone (and_second (is_among x ys) (list_all (λ n. is_among n ys) xs) known)) in
    omega arith

-- orders

-- the order of a range's replicas
pub of_replicas : (ns : List ℕ) → are_replicas ns ≡ true → IsOrder (record { replicas = ns; waiting = ns })
of_replicas ns h = record {
  few = le_of (length ns) 7 (and_second _ _ (and_first _ (no_twice ns) h));
  once = and_second _ (no_twice ns) h;
  known = all_themselves ns;
}

-- a replica put in front
pub with_front : (n : ℕ) (replicas waiting : List ℕ) → IsOrder (record { replicas = replicas; waiting = waiting }) → is_among n replicas ≡ true → IsOrder (record { replicas = replicas; waiting = n ∷ without_node n waiting })
with_front n replicas waiting o h = record {
  few = o.few;
  once = and_both (not (is_among n (without_node n waiting))) (no_twice (without_node n waiting)) (ap not (gone n waiting)) (once_without n waiting o.once);
  known = and_both (is_among n replicas) (list_all (λ m. is_among m replicas) (without_node n waiting)) h (all_without (λ m. is_among m replicas) n waiting o.known);
}

-- there is room for it
pub has_room : (n : ℕ) (replicas waiting : List ℕ) → IsOrder (record { replicas = replicas; waiting = waiting }) → is_among n replicas ≡ true → length (without_node n waiting) < 7
has_room n replicas waiting o h =
    let new : IsOrder (record { replicas = replicas; waiting = n ∷ without_node n waiting }) = with_front n replicas waiting o h in
    let most : suc (length (without_node n waiting)) ≤ length replicas = at_most (n ∷ without_node n waiting) replicas new.once new.known in
    let few : length replicas ≤ 7 = o.few in
    omega arith
