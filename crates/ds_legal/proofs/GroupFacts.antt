-- Facts on the first element at which something holds, and on groups of neighbours.
use Rattle.std.proofs.Common.{◌≡◌, ℕ, suc, ◌+◌, ◌<◌, ◌≤◌, Bool, true, false, not, cond, List, [], ◌∷◌, ◌++◌, length, map, get_or, take, drop, Some, None, refl, sym, subst, ap, ◌∙◌, append_assoc, arith, zero, below_more}
use Rattle.std.proofs.lemmas.List.{at_drop_more, at_drop_all, get_or_default, take_more, length-take-le, map_push}
use Rattle.std.specs.List.{flat_map, All}
use Rattle.std.proofs.Common.{nat_lt}
use Rattle.std.proofs.lemmas.Bool.Decides.{nat_tests}
use Rattle.std.proofs.lemmas.List.Elements.{All-nil, All-cons}
use Rattle.std.specs.Option.{is_some}
use Rattle.ds_legal.specs.Firsts.{Answers, IsFirst, FindsFirst}
use Rattle.ds_kind.specs.Groups.{first_after, first_where, groups_from, groups}

-- a step of a search that has come to the place i
pub first_passed : {A : Type 0} (test : List A → A → Bool) (xs : List A) (i : ℕ) (d : A) → i < length xs → test (take i xs) (get_or xs i d) ≡ false → first_after test (take i xs) (drop i xs) ≡ first_after test (take (i + 1) xs) (drop (i + 1) xs)
first_passed test xs i d low e =
    let rest = first_after test (take i xs ++ get_or xs i d ∷ []) (drop (i + 1) xs) in
    at_drop_more (first_after test (take i xs)) xs i d low
    ∙ ap (λ t. cond t (Some (length (take i xs))) rest) e
    ∙ ap (λ zs. first_after test zs (drop (i + 1) xs)) (sym (take_more xs i d low))

pub first_found : {A : Type 0} (test : List A → A → Bool) (xs : List A) (i : ℕ) (d : A) → i < length xs → test (take i xs) (get_or xs i d) ≡ true → first_after test (take i xs) (drop i xs) ≡ Some i
first_found test xs i d low e =
    let rest = first_after test (take i xs ++ get_or xs i d ∷ []) (drop (i + 1) xs) in
    let here : i ≤ length xs = omega arith in
    at_drop_more (first_after test (take i xs)) xs i d low
    ∙ ap (λ t. cond t (Some (length (take i xs))) rest) e
    ∙ ap (λ n. Some n) (length-take-le i xs here)

-- the groups, one after another, are the list
pub groups_from_joined : {A : Type 0} (j : List A → A → Bool) (last xs : List A) → flat_map (λ g. g) (groups_from j last xs) ≡ last ++ xs
groups_from_joined j last [] = refl
groups_from_joined j last (x ∷ xs) =
    elim (j last x) as (λ t. flat_map (λ g. g) (cond t (groups_from j (last ++ x ∷ []) xs) (last ∷ groups_from j (x ∷ []) xs)) ≡ last ++ x ∷ xs) [
      | true ↦ groups_from_joined j (last ++ x ∷ []) xs ∙ append_assoc last (x ∷ []) xs
      | false ↦ ap (λ zs. last ++ zs) (groups_from_joined j (x ∷ []) xs)
    ]

pub groups_joined : {A : Type 0} (j : List A → A → Bool) (xs : List A) → flat_map (λ g. g) (groups j xs) ≡ xs
groups_joined j [] = refl
groups_joined j (x ∷ xs) = groups_from_joined j (x ∷ []) xs

-- what holds of a single element, and of a group that grows by one that may join, holds of each group
pub groups_from_each : {A : Type 0} (P : List A → Type 0) (j : List A → A → Bool) → ((x : A) → P (x ∷ [])) → ((g : List A) (x : A) → P g → j g x ≡ true → P (g ++ x ∷ [])) → (last xs : List A) → P last → All P (groups_from j last xs)
groups_from_each P j one more last [] here = All-cons P last [] here (All-nil P)
groups_from_each P j one more last (x ∷ xs) here =
    elim (j last x) as (λ t. j last x ≡ t → All P (cond t (groups_from j (last ++ x ∷ []) xs) (last ∷ groups_from j (x ∷ []) xs))) [
      | true ↦ λ e. groups_from_each P j one more (last ++ x ∷ []) xs (more last x here e)
      | false ↦ λ e. All-cons P last (groups_from j (x ∷ []) xs) here (groups_from_each P j one more (x ∷ []) xs (one x))
    ] refl

pub groups_each : {A : Type 0} (P : List A → Type 0) (j : List A → A → Bool) → ((x : A) → P (x ∷ [])) → ((g : List A) (x : A) → P g → j g x ≡ true → P (g ++ x ∷ [])) → (xs : List A) → All P (groups j xs)
groups_each P j one more [] = All-nil P
groups_each P j one more (x ∷ xs) = groups_from_each P j one more (x ∷ []) xs (one x)

groups_from_some : {A : Type 0} (j : List A → A → Bool) (last xs : List A) → 0 < length (groups_from j last xs)
groups_from_some j last [] = omega arith
groups_from_some j last (x ∷ xs) =
    elim (j last x) as (λ t. 0 < length (cond t (groups_from j (last ++ x ∷ []) xs) (last ∷ groups_from j (x ∷ []) xs))) [
      | true ↦ groups_from_some j (last ++ x ∷ []) xs
      | false ↦ omega arith
    ]

one_more : (n : ℕ) → 0 < n → nat_lt 1 (suc n) ≡ true
one_more n h = grind (arith, nat_tests)

groups_from_split : {A : Type 0} (j : List A → A → Bool) (last xs : List A) → nat_lt 1 (length (groups_from j last xs)) ≡ is_some (first_after (λ g x. not (j g x)) last xs)
groups_from_split j last [] = refl
groups_from_split j last (x ∷ xs) =
    elim (j last x) as (λ t. nat_lt 1 (length (cond t (groups_from j (last ++ x ∷ []) xs) (last ∷ groups_from j (x ∷ []) xs))) ≡ is_some (cond (not t) (Some (length last)) (first_after (λ g y. not (j g y)) (last ++ x ∷ []) xs))) [
      | true ↦ groups_from_split j (last ++ x ∷ []) xs
      | false ↦ one_more (length (groups_from j (x ∷ []) xs)) (groups_from_some j (x ∷ []) xs)
    ]

-- there is more than one group exactly where one element may not join those before it
pub groups_split : {A : Type 0} (j : List A → A → Bool) (xs : List A) → ((x : A) → j [] x ≡ true) → nat_lt 1 (length (groups j xs)) ≡ is_some (first_where (λ g x. not (j g x)) xs)
groups_split j [] h = refl
groups_split j (x ∷ xs) h =
    groups_from_split j (x ∷ []) xs
    ∙ ap (λ t. is_some (cond (not t) (Some 0) (first_after (λ g y. not (j g y)) (x ∷ []) xs))) (sym (h x))

pub groups_some : {A : Type 0} (j : List A → A → Bool) (xs : List A) → 0 < length xs → 0 < length (groups j xs)
groups_some j [] h = absurd (omega arith)
groups_some j (x ∷ xs) h = groups_from_some j (x ∷ []) xs

-- groups of what the elements have, and groups of the elements
groups_from_map : {A B : Type 0} (f : A → B) (j : List B → B → Bool) (last xs : List A) → map (map f) (groups_from (λ g x. j (map f g) (f x)) last xs) ≡ groups_from j (map f last) (map f xs)
groups_from_map f j last [] = refl
groups_from_map f j last (x ∷ xs) =
    elim (j (map f last) (f x)) as (λ t. map (map f) (cond t (groups_from (λ g y. j (map f g) (f y)) (last ++ x ∷ []) xs) (last ∷ groups_from (λ g y. j (map f g) (f y)) (x ∷ []) xs)) ≡ cond t (groups_from j (map f last ++ f x ∷ []) (map f xs)) (map f last ∷ groups_from j (f x ∷ []) (map f xs))) [
      | true ↦ groups_from_map f j (last ++ x ∷ []) xs ∙ ap (λ g. groups_from j g (map f xs)) (map_push f last x)
      | false ↦ ap (λ gs. map f last ∷ gs) (groups_from_map f j (x ∷ []) xs)
    ]

pub groups_map : {A B : Type 0} (f : A → B) (j : List B → B → Bool) (xs : List A) → map (map f) (groups (λ g x. j (map f g) (f x)) xs) ≡ groups j (map f xs)
groups_map f j [] = refl
groups_map f j (x ∷ xs) = groups_from_map f j (x ∷ []) xs

-- a search that has passed the first i, with n to come

element : {A : Type 0} (xs : List A) → 0 < length xs → A
element [] h = absurd (omega arith)
element (x ∷ xs) h = x

answers_at : {A : Type 0} (test : List A → A → Bool) (xs : List A) (i : ℕ) (d : A) (answer : Bool) → i < length xs → test (take i xs) (get_or xs i d) ≡ answer → Answers test xs i answer
answers_at test xs i d answer low h = λ e. ap (test (take i xs)) (get_or_default xs i e d low) ∙ h

past_end : {A : Type 0} (test : List A → A → Bool) (xs : List A) (i : ℕ) → length xs ≤ i → first_after test (take i xs) (drop i xs) ≡ None
past_end test xs i h = at_drop_all (first_after test (take i xs)) xs i h

found_after : {A : Type 0} (test : List A → A → Bool) (xs : List A) (n i j : ℕ) → n + i ≡ length xs → ((k : ℕ) → k < i → Answers test xs k false) → first_after test (take i xs) (drop i xs) ≡ Some j → IsFirst test xs j
found_after test xs zero i j size past h = let none = past_end test xs i (omega arith) in absurd (not_some j (sym none ∙ h))
  where
    not_some : (m : ℕ) → None ≡ Some m → ⊥
    not_some m e = cc
found_after test xs (suc n) i j size past h =
    let low : i < length xs = omega arith in
    let d = element xs (omega arith) in
    elim (test (take i xs) (get_or xs i d)) as (λ t. test (take i xs) (get_or xs i d) ≡ t → IsFirst test xs j) [
      | true ↦ λ e.
          let same : i ≡ j = one_some i j (sym (first_found test xs i d low e) ∙ h) in
          subst (IsFirst test xs) same (record { within = low; here = answers_at test xs i d true low e; none_before = past })
      | false ↦ λ e.
          found_after test xs n (i + 1) j (omega arith) (below_more (λ k. Answers test xs k false) i past (answers_at test xs i d false low e)) (sym (first_passed test xs i d low e) ∙ h)
    ] refl
  where
    one_some : (m k : ℕ) → Some m ≡ Some k → m ≡ k
    one_some m k e = cc

none_after : {A : Type 0} (test : List A → A → Bool) (xs : List A) (n i : ℕ) → n + i ≡ length xs → ((k : ℕ) → k < i → Answers test xs k false) → first_after test (take i xs) (drop i xs) ≡ None → (k : ℕ) → k < length xs → Answers test xs k false
none_after test xs zero i size past h = λ k low. past k (omega arith)
none_after test xs (suc n) i size past h =
    let low : i < length xs = omega arith in
    let d = element xs (omega arith) in
    elim (test (take i xs) (get_or xs i d)) as (λ t. test (take i xs) (get_or xs i d) ≡ t → (k : ℕ) → k < length xs → Answers test xs k false) [
      | true ↦ λ e. absurd (not_some i (sym h ∙ first_found test xs i d low e))
      | false ↦ λ e.
          none_after test xs n (i + 1) (omega arith) (below_more (λ k. Answers test xs k false) i past (answers_at test xs i d false low e)) (sym (first_passed test xs i d low e) ∙ h)
    ] refl
  where
    not_some : (m : ℕ) → None ≡ Some m → ⊥
    not_some m e = cc

pub finds_first : {A : Type 0} (test : List A → A → Bool) (xs : List A) → FindsFirst test xs
finds_first test xs = record {
  found = λ i h. found_after test xs (length xs) 0 i (omega arith) (λ k low. absurd (omega arith)) h;
  none = λ h. none_after test xs (length xs) 0 (omega arith) (λ k low. absurd (omega arith)) h;
}
