-- Facts on lists in the order of their keys.
use Rattle.std.proofs.Common.{◌≡◌, ℕ, Bool, true, false, not, cond, ◌&&◌, List, [], ◌∷◌, ◌++◌, Option, Some, None, refl, sym, ap, ◌∙◌, subst}
use Rattle.std.specs.List.{filter, find}
use Rattle.std.specs.Ordering.{is_lt, is_le, is_eq}
use Rattle.std.specs.declared.cmp.Ordering.{Ordering}
use Rattle.std.specs.declared.cmp.Ordering.TheVariants.{Less, Equal, Greater}
use Rattle.std.specs.FinMap.{nat_cmp-IsAntisymmetric, slice_cmp-IsAntisymmetric}
use Rattle.std.proofs.lemmas.Cmp.{nat_list_cmp_total, tied_itself}
use Rattle.ds_base.specs.Order.{key_cmp, key_lt, key_le, holds}
use Rattle.ds_base.proofs.KeyOrder.{key_le-not_lt, key_lt-trans, key_lt-irrefl, key_le_lt-trans, key_le-antisymm, not-key_le}
use Rattle.ds_base.proofs.SmallFacts.{and_first, and_second, less_not_equal, none_some, some_same}
use Rattle.ds_base.specs.Ordered.{key_eq, AllOver, AllFrom, AllBelow, Ascends, at_key, between}

-- tests on keys

is_lt_le : (o : Ordering) → is_lt o ≡ true → is_le o ≡ true
is_lt_le Less h = refl
is_lt_le Equal h = refl
is_lt_le Greater h = h

pub le_of_lt : (a b : List ℕ) → key_lt a b ≡ true → key_le a b ≡ true
le_of_lt a b h = is_lt_le _ h

pub not_lt_of_le : (a b : List ℕ) → key_le a b ≡ true → key_lt b a ≡ false
not_lt_of_le a b h = sym (not-key_le a b) ∙ ap not h

pub not_le_of_lt : (a b : List ℕ) → key_lt a b ≡ true → key_le b a ≡ false
not_le_of_lt a b h = key_le-not_lt b a ∙ ap not h

pub le_of_not_lt : (a b : List ℕ) → key_lt a b ≡ false → key_le b a ≡ true
le_of_not_lt a b h = key_le-not_lt b a ∙ ap not h

pub le_trans : (a b c : List ℕ) → key_le a b ≡ true → key_le b c ≡ true → key_le a c ≡ true
le_trans a b c p q =
    elim (key_lt b c) as (λ t. key_lt b c ≡ t → key_le a c ≡ true) [
      | true ↦ λ e. le_of_lt a c (key_le_lt-trans a b c p e)
      | false ↦ λ e. subst (λ w. key_le a w ≡ true) (key_le-antisymm b c q e) p
    ] refl

pub lt_le_trans : (a b c : List ℕ) → key_lt a b ≡ true → key_le b c ≡ true → key_lt a c ≡ true
lt_le_trans a b c p q =
    elim (key_lt b c) as (λ t. key_lt b c ≡ t → key_lt a c ≡ true) [
      | true ↦ λ e. key_lt-trans a b c p e
      | false ↦ λ e. subst (λ w. key_lt a w ≡ true) (key_le-antisymm b c q e) p
    ] refl

is_equal : (o : Ordering) → is_eq o ≡ true → o ≡ Equal
is_equal Less e = cc
is_equal Equal e = refl
is_equal Greater e = cc

pub eq_same : (a b : List ℕ) → key_eq a b ≡ true → a ≡ b
eq_same a b h = slice_cmp-IsAntisymmetric nat_cmp-IsAntisymmetric a b (is_equal _ h)

pub eq_itself : (a : List ℕ) → key_eq a a ≡ true
eq_itself a = ap is_eq (tied_itself nat_list_cmp_total a)

pub lt_not_eq : (a b : List ℕ) → key_lt a b ≡ true → key_eq a b ≡ false
lt_not_eq a b h = less_not_equal _ h

-- b is above a, so it is not a
pub gt_not_eq : (a b : List ℕ) → key_lt a b ≡ true → key_eq b a ≡ false
gt_not_eq a b h =
    elim (key_eq b a) as (λ t. key_eq b a ≡ t → t ≡ false) [
      | true ↦ λ e. absurd (no (subst (λ w. key_lt a w ≡ true) (eq_same b a e) h))
      | false ↦ λ e. refl
    ] refl
  where
    no : key_lt a a ≡ true → ⊥
    no h = let k : true ≡ false = sym h ∙ key_lt-irrefl a in cc

and_false : (t : Bool) → (t && false) ≡ false
and_false true = refl
and_false false = refl

-- lists

pub over-below : {X : Type 0} (f : X → List ℕ) (k h : List ℕ) (xs : List X) → key_lt k h ≡ true → AllOver f h xs → AllOver f k xs
over-below f k h [] low all = tt
over-below f k h (x ∷ xs) low all = (key_lt-trans k h (f x) low all.0, over-below f k h xs low all.1)

pub over-append : {X : Type 0} (f : X → List ℕ) (k : List ℕ) (xs ys : List X) → AllOver f k xs → AllOver f k ys → AllOver f k (xs ++ ys)
over-append f k [] ys a b = b
over-append f k (x ∷ xs) ys a b = (a.0, over-append f k xs ys a.1 b)

pub at-none : {X : Type 0} (f : X → List ℕ) (k : List ℕ) (xs : List X) → AllOver f k xs → at_key f k xs ≡ None
at-none f k [] all = refl
at-none f k (x ∷ xs) all =
    ap (λ t. cond t (Some x) (at_key f k xs)) (gt_not_eq k (f x) all.0) ∙ at-none f k xs all.1

at-head : {X : Type 0} (f : X → List ℕ) (x : X) (xs : List X) → at_key f (f x) (x ∷ xs) ≡ Some x
at-head f x xs = ap (λ t. cond t (Some x) (at_key f (f x) xs)) (eq_itself (f x))

-- at each key the tails agree too
tails : {X : Type 0} (f : X → List ℕ) (x : X) (xs ys : List X) → AllOver f (f x) xs → AllOver f (f x) ys → ((k : List ℕ) → at_key f k (x ∷ xs) ≡ at_key f k (x ∷ ys)) → (k : List ℕ) → at_key f k xs ≡ at_key f k ys
tails f x xs ys a b h k =
    elim (key_eq (f x) k) as (λ t. key_eq (f x) k ≡ t → cond t (Some x) (at_key f k xs) ≡ cond t (Some x) (at_key f k ys) → at_key f k xs ≡ at_key f k ys) [
      | true ↦ λ e g. subst (λ q. at_key f q xs ≡ at_key f q ys) (eq_same (f x) k e) (at-none f (f x) xs a ∙ sym (at-none f (f x) ys b))
      | false ↦ λ e g. g
    ] refl (h k)

same_heads : {X : Type 0} (f : X → List ℕ) (x y : X) (xs ys : List X) → AllOver f (f x) xs → AllOver f (f y) ys → ((k : List ℕ) → at_key f k (x ∷ xs) ≡ at_key f k (y ∷ ys)) → (((k : List ℕ) → at_key f k xs ≡ at_key f k ys) → xs ≡ ys) → x ≡ y → x ∷ xs ≡ y ∷ ys
same_heads f x y xs ys a b h ih e =
    subst (λ z. AllOver f (f z) ys → ((k : List ℕ) → at_key f k (x ∷ xs) ≡ at_key f k (z ∷ ys)) → x ∷ xs ≡ z ∷ ys) e
    (λ bb hh. ap (λ zs. x ∷ zs) (ih (tails f x xs ys a bb hh))) b h

-- two ascending lists with the same at each key are one list
pub same_list : {X : Type 0} (f : X → List ℕ) (xs ys : List X) → Ascends f xs → Ascends f ys → ((k : List ℕ) → at_key f k xs ≡ at_key f k ys) → xs ≡ ys
same_list f [] [] a b h = refl
same_list f [] (y ∷ ys) a b h = none_some y (h (f y) ∙ at-head f y ys)
same_list f (x ∷ xs) [] a b h = none_some x (sym (h (f x)) ∙ at-head f x xs)
same_list f (x ∷ xs) (y ∷ ys) a b h =
    elim (key_lt (f x) (f y)) as (λ t. key_lt (f x) (f y) ≡ t → x ∷ xs ≡ y ∷ ys) [
      | true ↦ λ e. none_some x (sym (at-none f (f x) (y ∷ ys) (e, over-below f (f x) (f y) ys e b.0)) ∙ sym (h (f x)) ∙ at-head f x xs)
      | false ↦ λ e. elim (key_lt (f y) (f x)) as (λ t. key_lt (f y) (f x) ≡ t → x ∷ xs ≡ y ∷ ys) [
        | true ↦ λ d. none_some y (sym (at-none f (f y) (x ∷ xs) (d, over-below f (f y) (f x) xs d a.0)) ∙ h (f y) ∙ at-head f y ys)
        | false ↦ λ d.
            let keys : f x ≡ f y = key_le-antisymm (f x) (f y) (le_of_not_lt (f y) (f x) d) e in
            let heads : x ≡ y = some_same x y (sym (at-head f x xs) ∙ h (f x) ∙ ap (λ k. at_key f k (y ∷ ys)) keys ∙ at-head f y ys) in
            same_heads f x y xs ys a.0 b.0 h (same_list f xs ys a.1 b.1) heads
      ] refl
    ] refl

-- spans

pub cut-append : {X : Type 0} (f : X → List ℕ) (s e : List ℕ) (xs ys : List X) → between f s e (xs ++ ys) ≡ between f s e xs ++ between f s e ys
cut-append f s e [] ys = refl
cut-append f s e (x ∷ xs) ys =
    ap (λ zs. cond (holds s e (f x)) (x ∷ zs) zs) (cut-append f s e xs ys) ∙ kept (holds s e (f x)) x (between f s e xs) (between f s e ys)
  where
    kept : {X : Type 0} (t : Bool) (x : X) (xs ys : List X) → cond t (x ∷ (xs ++ ys)) (xs ++ ys) ≡ cond t (x ∷ xs) xs ++ ys
    kept true x xs ys = refl
    kept false x xs ys = refl

-- nothing from e on is before e
pub none-from : {X : Type 0} (f : X → List ℕ) (s e : List ℕ) (xs : List X) → AllFrom f e xs → between f s e xs ≡ []
none-from f s e [] all = refl
none-from f s e (x ∷ xs) all =
    let out : holds s e (f x) ≡ false = ap (λ t. key_le s (f x) && t) (not_lt_of_le e (f x) all.0) ∙ and_false _ in
    ap (λ t. cond t (x ∷ between f s e xs) (between f s e xs)) out ∙ none-from f s e xs all.1

-- nothing below s is from s on
pub none-below : {X : Type 0} (f : X → List ℕ) (s e : List ℕ) (xs : List X) → AllBelow f s xs → between f s e xs ≡ []
none-below f s e [] all = refl
none-below f s e (x ∷ xs) all =
    let out : holds s e (f x) ≡ false = ap (λ t. t && key_lt (f x) e) (not_le_of_lt (f x) s all.0) in
    ap (λ t. cond t (x ∷ between f s e xs) (between f s e xs)) out ∙ none-below f s e xs all.1

pub from-of-over : {X : Type 0} (f : X → List ℕ) (m k : List ℕ) (xs : List X) → key_le m k ≡ true → AllOver f k xs → AllFrom f m xs
from-of-over f m k [] h all = tt
from-of-over f m k (x ∷ xs) h all = (le_of_lt m (f x) (key_le_lt-trans m k (f x) h all.0), from-of-over f m k xs h all.1)

same_step : {X : Type 0} (t u : Bool) (x : X) (xs ys : List X) → t ≡ u → xs ≡ ys → cond t (x ∷ xs) xs ≡ cond u (x ∷ ys) ys
same_step t u x xs ys p q = cc

same-from : {X : Type 0} (f : X → List ℕ) (s m e : List ℕ) (xs : List X) → key_le s m ≡ true → AllFrom f m xs → between f s e xs ≡ between f m e xs
same-from f s m e [] h all = refl
same-from f s m e (x ∷ xs) h all =
    let alike : holds s e (f x) ≡ holds m e (f x) = ap (λ t. t && key_lt (f x) e) (le_trans s m (f x) h all.0 ∙ sym all.0) in
    same_step _ _ x _ _ alike (same-from f s m e xs h all.1)

-- a span cut in two
pub cut : {X : Type 0} (f : X → List ℕ) (s m e : List ℕ) (xs : List X) → Ascends f xs → key_le s m ≡ true → key_le m e ≡ true → between f s e xs ≡ between f s m xs ++ between f m e xs
cut f s m e [] asc sm me = refl
cut f s m e (x ∷ xs) asc sm me =
    elim (key_lt (f x) m) as (λ t. key_lt (f x) m ≡ t → between f s e (x ∷ xs) ≡ between f s m (x ∷ xs) ++ between f m e (x ∷ xs)) [
      | true ↦ λ low.
          let whole : holds s e (f x) ≡ key_le s (f x) && true = ap (λ t. key_le s (f x) && t) (lt_le_trans (f x) m e low me) in
          let first : holds s m (f x) ≡ key_le s (f x) && true = ap (λ t. key_le s (f x) && t) low in
          let second : holds m e (f x) ≡ false = ap (λ t. t && key_lt (f x) e) (not_le_of_lt (f x) m low) in
          same_step _ _ x _ _ (whole ∙ sym first) (cut f s m e xs asc.1 sm me)
          ∙ kept (holds s m (f x)) x (between f s m xs) (between f m e xs)
          ∙ ap (λ t. between f s m (x ∷ xs) ++ cond t (x ∷ between f m e xs) (between f m e xs)) (sym second)
      | false ↦ λ high.
          let from : key_le m (f x) ≡ true = le_of_not_lt (f x) m high in
          let all : AllFrom f m (x ∷ xs) = (from, from-of-over f m (f x) xs from asc.0) in
          same-from f s m e (x ∷ xs) sm all ∙ ap (λ ys. ys ++ between f m e (x ∷ xs)) (sym (none-from f s m (x ∷ xs) all))
    ] refl
  where
    kept : {X : Type 0} (t : Bool) (x : X) (xs ys : List X) → cond t (x ∷ (xs ++ ys)) (xs ++ ys) ≡ cond t (x ∷ xs) xs ++ ys
    kept true x xs ys = refl
    kept false x xs ys = refl

over-between : {X : Type 0} (f : X → List ℕ) (s e k : List ℕ) (xs : List X) → AllOver f k xs → AllOver f k (between f s e xs)
over-between f s e k [] all = tt
over-between f s e k (x ∷ xs) all =
    elim (holds s e (f x)) as (λ t. AllOver f k (cond t (x ∷ between f s e xs) (between f s e xs))) [
      | true ↦ (all.0, over-between f s e k xs all.1)
      | false ↦ over-between f s e k xs all.1
    ]

pub ascends-between : {X : Type 0} (f : X → List ℕ) (s e : List ℕ) (xs : List X) → Ascends f xs → Ascends f (between f s e xs)
ascends-between f s e [] asc = tt
ascends-between f s e (x ∷ xs) asc =
    elim (holds s e (f x)) as (λ t. Ascends f (cond t (x ∷ between f s e xs) (between f s e xs))) [
      | true ↦ (over-between f s e (f x) xs asc.0, ascends-between f s e xs asc.1)
      | false ↦ ascends-between f s e xs asc.1
    ]

none_both : {X : Type 0} (t : Bool) (o : Option X) → o ≡ None → o ≡ cond t o None
none_both true o h = refl
none_both false o h = h

-- what the span shows at a key
pub at_key-between : {X : Type 0} (f : X → List ℕ) (s e k : List ℕ) (xs : List X) → at_key f k (between f s e xs) ≡ cond (holds s e k) (at_key f k xs) None
at_key-between f s e k [] = none_both (holds s e k) (at_key f k []) refl
at_key-between f s e k (x ∷ xs) =
    elim (key_eq (f x) k) as (λ t. key_eq (f x) k ≡ t → at_key f k (cond (holds s e (f x)) (x ∷ between f s e xs) (between f s e xs)) ≡ cond (holds s e k) (cond t (Some x) (at_key f k xs)) None) [
      | true ↦ λ same.
          let key : f x ≡ k = eq_same (f x) k same in
          subst (λ q. at_key f k (cond (holds s e (f x)) (x ∷ between f s e xs) (between f s e xs)) ≡ cond (holds s e q) (Some x) None) key
          (elim (holds s e (f x)) as (λ t. holds s e (f x) ≡ t → at_key f k (cond t (x ∷ between f s e xs) (between f s e xs)) ≡ cond t (Some x) None) [
            | true ↦ λ in_span. ap (λ t. cond t (Some x) (at_key f k (between f s e xs))) same
            | false ↦ λ out. at_key-between f s e k xs ∙ ap (λ t. cond t (at_key f k xs) None) (sym (ap (holds s e) key) ∙ out)
          ] refl)
      | false ↦ λ other.
          elim (holds s e (f x)) as (λ t. at_key f k (cond t (x ∷ between f s e xs) (between f s e xs)) ≡ cond (holds s e k) (at_key f k xs) None) [
            | true ↦ ap (λ t. cond t (Some x) (at_key f k (between f s e xs))) other ∙ at_key-between f s e k xs
            | false ↦ at_key-between f s e k xs
          ]
    ] refl
