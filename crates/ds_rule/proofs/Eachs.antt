-- What holds of each of a list, and of each of its parts.
use Rattle.std.proofs.Common.{◌≡◌, ℕ, zero, suc, ◌⊎◌, List, [], ◌∷◌, ◌++◌, reverse, Some, inl, inr, sym, subst}
use Rattle.std.specs.List.{slice_get}
use Rattle.std.proofs.lemmas.Grind.{reverse_onto}
use Rattle.ds_base.proofs.SmallFacts.{some_same}
use Rattle.ds_rule.specs.Pieces.{Each, IsOneOf}

pub each-append : {X : Type 0} (P : X → Type 0) (xs ys : List X) → Each P xs → Each P ys → Each P (xs ++ ys)
each-append P [] ys a b = b
each-append P (x ∷ xs) ys a b = (a.0, each-append P xs ys a.1 b)

pub each-left : {X : Type 0} (P : X → Type 0) (xs ys : List X) → Each P (xs ++ ys) → Each P xs
each-left P [] ys all = tt
each-left P (x ∷ xs) ys all = (all.0, each-left P xs ys all.1)

pub each-right : {X : Type 0} (P : X → Type 0) (xs ys : List X) → Each P (xs ++ ys) → Each P ys
each-right P [] ys all = all
each-right P (x ∷ xs) ys all = each-right P xs ys all.1

-- ---- one of a list

pub each-of : {X : Type 0} (P : X → Type 0) (x : X) (xs : List X) → Each P xs → IsOneOf x xs → P x
each-of P x [] all one = absurd one
each-of P x (y ∷ ys) all (inl same) = subst P (sym same) all.0
each-of P x (y ∷ ys) all (inr more) = each-of P x ys all.1 more

of-append : {X : Type 0} (x : X) (xs ys : List X) → IsOneOf x (xs ++ ys) → IsOneOf x xs ⊎ IsOneOf x ys
of-append x [] ys h = inr h
of-append x (y ∷ xs) ys (inl same) = inl (inl same)
of-append x (y ∷ xs) ys (inr more) = elim (of-append x xs ys more) [ inl l ↦ inl (inr l) | inr r ↦ inr r ]

pub of-reverse : {X : Type 0} (x : X) (xs : List X) → IsOneOf x (reverse xs) → IsOneOf x xs
of-reverse x [] h = h
of-reverse x (y ∷ ys) h = elim (of-append x (reverse ys) (y ∷ []) (subst (IsOneOf x) (reverse_onto ys y []) h)) [
  | inl l ↦ inr (of-reverse x ys l)
  | inr r ↦ elim r [ inl same ↦ inl same | inr none ↦ absurd none ]
]

pub of-get : {X : Type 0} (x : X) (xs : List X) (n : ℕ) → slice_get xs n ≡ Some x → IsOneOf x xs
of-get x [] n h = cc
of-get x (y ∷ ys) zero h = inl (sym (some_same y x h))
of-get x (y ∷ ys) (suc n) h = inr (of-get x ys n h)
