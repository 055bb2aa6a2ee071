-- Things in the order of their keys: sorting keeps them all, and where keys differ there is one such order.
use Rattle.std.proofs.Common.{◌≡◌, ℕ, ◌+◌, ◌≤◌, true, false, cond, List, [], ◌∷◌, refl, sym, ap, ◌∙◌, subst, inl, inr, arith}
use Rattle.std.specs.List.{All, sum_by}
use Rattle.std.specs.List.Sorted.{IsPermutation}
use Rattle.std.proofs.lemmas.List.Elements.{All-nil, All-cons, All-head, All-tail, All-weaker}
use Rattle.std.proofs.lemmas.List.Sorted.{All-permutation, IsPermutation-sym, sum_by-IsPermutation}
use Rattle.std.proofs.lemmas.List.Sums.{sum_by-cons}
use Rattle.ds_base.specs.Order.{key_lt, key_le}
use Rattle.ds_base.specs.Ordered.{key_eq, AllOver, AllFrom, Ascends}
use Rattle.ds_base.proofs.KeyOrder.{key_lt-irrefl, key_lt-trans, key_le-antisymm}
use Rattle.ds_base.proofs.OrderedFacts.{le_of_lt, le_of_not_lt, eq_same, eq_itself, gt_not_eq}
use Rattle.ds_base.proofs.KeyFacts.{from_lower}
use Rattle.ds_kind.specs.Bodies.{put_in_order, in_order}
use Rattle.ds_cover.specs.Items.{IsOneOf}
use Rattle.ds_cover.specs.Chains.{one_if, Sorts, times_keyed, KeysDiffer}
use Rattle.ds_cover.proofs.Tests.{not_both, exchange}

from-put : {X : Type 0} (key : X → List ℕ) (m : List ℕ) (a : X) (xs : List X) → key_le m (key a) ≡ true → AllFrom key m xs → AllFrom key m (put_in_order key a xs)
from-put key m a [] h all = (h, tt)
from-put key m a (b ∷ bs) h all =
    elim (key_lt (key b) (key a)) as (λ t. AllFrom key m (cond t (b ∷ put_in_order key a bs) (a ∷ b ∷ bs))) [
      | true ↦ (all.0, from-put key m a bs h all.1)
      | false ↦ (h, all)
    ]

pub sorts-put : {X : Type 0} (key : X → List ℕ) (a : X) (xs : List X) → Sorts key xs → Sorts key (put_in_order key a xs)
sorts-put key a [] h = (tt, tt)
sorts-put key a (b ∷ bs) h =
    elim (key_lt (key b) (key a)) as (λ t. key_lt (key b) (key a) ≡ t → Sorts key (cond t (b ∷ put_in_order key a bs) (a ∷ b ∷ bs))) [
      | true ↦ λ e. (from-put key (key b) a bs (le_of_lt (key b) (key a) e) h.0, sorts-put key a bs h.1)
      | false ↦ λ e.
          let low = le_of_not_lt (key b) (key a) e in
          ((low, from_lower key (key a) (key b) bs low h.0), h)
    ] refl

pub sorts : {X : Type 0} (key : X → List ℕ) (xs : List X) → Sorts key (in_order key xs)
sorts key [] = tt
sorts key (x ∷ xs) = sorts-put key x (in_order key xs) (sorts key xs)

-- what stands in a list

abbrev pub Included : {X : Type 0} → List X → List X → Type 0
Included {X} xs ys = (z : X) → IsOneOf z xs → IsOneOf z ys

each-in : {X : Type 0} (xs : List X) → All (λ z. IsOneOf z xs) xs
each-in [] = All-nil (λ z. IsOneOf z [])
each-in (x ∷ xs) =
    All-cons (λ z. IsOneOf z (x ∷ xs)) x xs (inl refl)
    (All-weaker (λ z. IsOneOf z xs) (λ z. IsOneOf z (x ∷ xs)) (λ z h. inr h) xs (each-in xs))

all-in : {X : Type 0} (P : X → Type 0) (xs : List X) → All P xs → (z : X) → IsOneOf z xs → P z
all-in P [] all z h = absurd h
all-in P (x ∷ xs) all z h =
    elim h [
      | inl e ↦ subst P (sym e) (All-head P x xs all)
      | inr g ↦ all-in P xs (All-tail P x xs all) z g
    ]

pub moved-in : {X : Type 0} (xs ys : List X) → IsPermutation xs ys → Included ys xs
moved-in xs ys p = all-in (λ z. IsOneOf z xs) ys (All-permutation (λ z. IsOneOf z xs) xs ys p (each-in xs))

in-put : {X : Type 0} (key : X → List ℕ) (a : X) (xs : List X) → Included (put_in_order key a xs) (a ∷ xs)
in-put key a [] = λ z h. h
in-put key a (b ∷ bs) =
    elim (key_lt (key b) (key a)) as (λ t. Included (cond t (b ∷ put_in_order key a bs) (a ∷ b ∷ bs)) (a ∷ b ∷ bs)) [
      | true ↦ λ z h. elim h [
        | inl e ↦ inr (inl e)
        | inr g ↦ elim (in-put key a bs z g) [
          | inl e ↦ inl e
          | inr r ↦ inr (inr r)
        ]
      ]
      | false ↦ λ z h. h
    ]

put-in : {X : Type 0} (key : X → List ℕ) (a : X) (xs : List X) → Included (a ∷ xs) (put_in_order key a xs)
put-in key a [] = λ z h. h
put-in key a (b ∷ bs) =
    elim (key_lt (key b) (key a)) as (λ t. Included (a ∷ b ∷ bs) (cond t (b ∷ put_in_order key a bs) (a ∷ b ∷ bs))) [
      | true ↦ λ z h. elim h [
        | inl e ↦ inr (put-in key a bs z (inl e))
        | inr g ↦ elim g [
          | inl e ↦ inl e
          | inr r ↦ inr (put-in key a bs z (inr r))
        ]
      ]
      | false ↦ λ z h. h
    ]

pub in-sorted : {X : Type 0} (key : X → List ℕ) (xs : List X) → Included (in_order key xs) xs
in-sorted key [] z h = h
in-sorted key (x ∷ xs) z h =
    elim (in-put key x (in_order key xs) z h) [
      | inl e ↦ inl e
      | inr g ↦ inr (in-sorted key xs z g)
    ]

pub sorted-in : {X : Type 0} (key : X → List ℕ) (xs : List X) → Included xs (in_order key xs)
sorted-in key [] z h = h
sorted-in key (x ∷ xs) z h =
    elim h [
      | inl e ↦ put-in key x (in_order key xs) z (inl e)
      | inr g ↦ put-in key x (in_order key xs) z (inr (sorted-in key xs z g))
    ]

-- two lists that ascend and hold the same things are one list

over-in : {X : Type 0} (key : X → List ℕ) (k : List ℕ) (xs : List X) → AllOver key k xs → (z : X) → IsOneOf z xs → key_lt k (key z) ≡ true
over-in key k [] all z h = absurd h
over-in key k (x ∷ xs) all z h =
    elim h [
      | inl e ↦ subst (λ y. key_lt k (key y) ≡ true) (sym e) all.0
      | inr r ↦ over-in key k xs all.1 z r
    ]

never_round : {G : Type 0} (a b : List ℕ) → key_lt a b ≡ true → key_lt b a ≡ true → G
never_round a b p q = not_both (key_lt a a) (key_lt-trans a b a p q) (key_lt-irrefl a)

heads : {X : Type 0} (key : X → List ℕ) (x y : X) (xs ys : List X) → AllOver key (key x) xs → AllOver key (key y) ys → IsOneOf x (y ∷ ys) → IsOneOf y (x ∷ xs) → x ≡ y
heads key x y xs ys p q h r =
    elim h [
      | inl e ↦ e
      | inr a ↦ elim r [
        | inl e ↦ sym e
        | inr b ↦ never_round (key x) (key y) (over-in key (key x) xs p y b) (over-in key (key y) ys q x a)
      ]
    ]

inner : {X : Type 0} (key : X → List ℕ) (x y : X) (xs ys : List X) → AllOver key (key x) xs → x ≡ y → Included (x ∷ xs) (y ∷ ys) → Included xs ys
inner key x y xs ys over same inc z h =
    elim (inc z (inr h)) [
      | inl e ↦
          let low = over-in key (key x) xs over z h in
          not_both (key_lt (key x) (key x)) (subst (λ w. key_lt (key x) (key w) ≡ true) (e ∙ sym same) low) (key_lt-irrefl (key x))
      | inr r ↦ r
    ]

pub same_members : {X : Type 0} (key : X → List ℕ) (xs ys : List X) → Ascends key xs → Ascends key ys → Included xs ys → Included ys xs → xs ≡ ys
same_members key [] [] a b p q = refl
same_members key [] (y ∷ ys) a b p q = absurd (q y (inl refl))
same_members key (x ∷ xs) [] a b p q = absurd (p x (inl refl))
same_members key (x ∷ xs) (y ∷ ys) a b p q =
    let same = heads key x y xs ys a.0 b.0 (p x (inl refl)) (q y (inl refl)) in
    ap (λ z. z ∷ xs) same ∙ ap (λ zs. y ∷ zs) (same_members key xs ys a.1 b.1 (inner key x y xs ys a.0 same p) (inner key y x ys xs b.0 (sym same) q))

-- how often a key stands

keyed-put : {X : Type 0} (key : X → List ℕ) (k : List ℕ) (a : X) (xs : List X) → times_keyed key k (put_in_order key a xs) ≡ one_if (key_eq (key a) k) + times_keyed key k xs
keyed-put key k a [] = refl
keyed-put key k a (b ∷ bs) =
    elim (key_lt (key b) (key a)) as (λ t. times_keyed key k (cond t (b ∷ put_in_order key a bs) (a ∷ b ∷ bs)) ≡ one_if (key_eq (key a) k) + (one_if (key_eq (key b) k) + times_keyed key k bs)) [
      | true ↦
          ap (λ n. one_if (key_eq (key b) k) + n) (keyed-put key k a bs)
          ∙ exchange (one_if (key_eq (key b) k)) (one_if (key_eq (key a) k)) (times_keyed key k bs)
      | false ↦ refl
    ]

pub keyed-sorted : {X : Type 0} (key : X → List ℕ) (k : List ℕ) (xs : List X) → times_keyed key k (in_order key xs) ≡ times_keyed key k xs
keyed-sorted key k [] = refl
keyed-sorted key k (x ∷ xs) = keyed-put key k x (in_order key xs) ∙ ap (λ n. one_if (key_eq (key x) k) + n) (keyed-sorted key k xs)

keyed-sum : {X : Type 0} (key : X → List ℕ) (k : List ℕ) (xs : List X) → times_keyed key k xs ≡ sum_by (λ x. one_if (key_eq (key x) k)) xs
keyed-sum key k [] = refl
keyed-sum key k (x ∷ xs) = ap (λ n. one_if (key_eq (key x) k) + n) (keyed-sum key k xs) ∙ sym (sum_by-cons (λ z. one_if (key_eq (key z) k)) x xs)

pub keyed-moved : {X : Type 0} (key : X → List ℕ) (k : List ℕ) (xs ys : List X) → IsPermutation xs ys → times_keyed key k ys ≡ times_keyed key k xs
keyed-moved key k xs ys p = keyed-sum key k ys ∙ sum_by-IsPermutation (λ x. one_if (key_eq (key x) k)) xs ys p ∙ sym (keyed-sum key k xs)

pub differ-moved : {X : Type 0} (key : X → List ℕ) (xs ys : List X) → IsPermutation xs ys → KeysDiffer key xs → KeysDiffer key ys
differ-moved key xs ys p d k = subst (λ n. n ≤ 1) (sym (keyed-moved key k xs ys p)) (d k)

pub differ-sorted : {X : Type 0} (key : X → List ℕ) (xs : List X) → KeysDiffer key xs → KeysDiffer key (in_order key xs)
differ-sorted key xs d k = subst (λ n. n ≤ 1) (sym (keyed-sorted key k xs)) (d k)

one_is_not_none : {G : Type 0} (n : ℕ) → 1 + n ≡ 0 → G
one_is_not_none n h = absurd (no n h)
  where
    no : (n : ℕ) → 1 + n ≡ 0 → ⊥
    no n h = omega (arith, h)

rest_none : (a n : ℕ) → a + n ≡ 0 → n ≡ 0
rest_none a n h = omega (arith, h)

none_else : (n : ℕ) → 1 + n ≤ 1 → n ≡ 0
none_else n h = omega (arith, h)

rest_low : (a n : ℕ) → a + n ≤ 1 → n ≤ 1
rest_low a n h = omega (arith, h)

over-of-from : {X : Type 0} (key : X → List ℕ) (k : List ℕ) (xs : List X) → AllFrom key k xs → times_keyed key k xs ≡ 0 → AllOver key k xs
over-of-from key k [] all none = tt
over-of-from key k (x ∷ xs) all none = (
  elim (key_lt k (key x)) as (λ t. key_lt k (key x) ≡ t → t ≡ true) [
    | true ↦ λ e. refl
    | false ↦ λ e.
        let same : k ≡ key x = key_le-antisymm k (key x) all.0 e in
        let is : key_eq (key x) k ≡ true = subst (λ w. key_eq w k ≡ true) same (eq_itself k) in
        one_is_not_none (times_keyed key k xs) (subst (λ t. one_if t + times_keyed key k xs ≡ 0) is none)
  ] refl,
  over-of-from key k xs all.1 (rest_none _ _ none),
)

pub differ-ascend : {X : Type 0} (key : X → List ℕ) (xs : List X) → Sorts key xs → KeysDiffer key xs → Ascends key xs
differ-ascend key [] s d = tt
differ-ascend key (x ∷ xs) s d = (
  over-of-from key (key x) xs s.0 (none_else (times_keyed key (key x) xs) (subst (λ t. one_if t + times_keyed key (key x) xs ≤ 1) (eq_itself (key x)) (d (key x)))),
  differ-ascend key xs s.1 (λ k. rest_low (one_if (key_eq (key x) k)) (times_keyed key k xs) (d k)),
)

none-keyed : {X : Type 0} (key : X → List ℕ) (k : List ℕ) (xs : List X) → AllOver key k xs → times_keyed key k xs ≡ 0
none-keyed key k [] all = refl
none-keyed key k (x ∷ xs) all = ap (λ t. one_if t + times_keyed key k xs) (gt_not_eq k (key x) all.0) ∙ ap (λ n. 0 + n) (none-keyed key k xs all.1)

pub ascend-differ : {X : Type 0} (key : X → List ℕ) (xs : List X) → Ascends key xs → KeysDiffer key xs
ascend-differ key [] asc k = omega arith
ascend-differ key (x ∷ xs) asc k =
    elim (key_eq (key x) k) as (λ t. key_eq (key x) k ≡ t → one_if t + times_keyed key k xs ≤ 1) [
      | true ↦ λ e. one (times_keyed key k xs) (subst (λ w. times_keyed key w xs ≡ 0) (eq_same (key x) k e) (none-keyed key (key x) xs asc.0))
      | false ↦ λ e. more (times_keyed key k xs) (ascend-differ key xs asc.1 k)
    ] refl
  where
    one : (n : ℕ) → n ≡ 0 → 1 + n ≤ 1
    one n h = omega (arith, h)

    more : (n : ℕ) → n ≤ 1 → 0 + n ≤ 1
    more n h = omega (arith, h)

pub ascends-sorted : {X : Type 0} (key : X → List ℕ) (xs : List X) → KeysDiffer key xs → Ascends key (in_order key xs)
ascends-sorted key xs d = differ-ascend key (in_order key xs) (sorts key xs) (differ-sorted key xs d)

-- the order of things with different keys doesn't show
pub same-order : {X : Type 0} (key : X → List ℕ) (xs ys : List X) → IsPermutation xs ys → KeysDiffer key xs → in_order key ys ≡ in_order key xs
same-order key xs ys p d =
    same_members key (in_order key ys) (in_order key xs)
    (ascends-sorted key ys (differ-moved key xs ys p d)) (ascends-sorted key xs d)
    (λ z h. sorted-in key xs z (moved-in xs ys p z (in-sorted key ys z h)))
    (λ z h. sorted-in key ys z (moved-in ys xs (IsPermutation-sym xs ys p) z (in-sorted key xs z h)))
