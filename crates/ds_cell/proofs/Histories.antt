-- Facts on lists in the order of their numbers, and on sums.
use Rattle.std.proofs.Common.{◌≡◌, ℕ, ◌+◌, suc, ◌≤◌, Bool, true, false, not, cond, List, ◌∷◌, length, refl, sym, ap, ◌∙◌, subst, Option, Some, None, arith, nat_lt, unwrap_or, ltb-false, ℤ, pos, negsuc, FitsSigned, w64}
use Rattle.std.specs.Option.{SomeIff}
use Rattle.std.proofs.lemmas.Bool.Decides.{nat_tests}
use Rattle.std.specs.List.{insert, position_or_len}
use Rattle.std.proofs.lemmas.List.Sums.{prefix_len-le-length}
use Rattle.ds_cell.specs.Kinds.{fits_i64}
use Rattle.ds_cell.specs.Change.{place_before}

pub insert-one : {X : Type 0} (y : X) (ys : List X) (x : X) (n : ℕ) → insert (y ∷ ys) (1 + n) x ≡ y ∷ insert ys n x
insert-one y ys x n = let e : suc n ≡ 1 + n = omega arith in subst (λ k. insert (y ∷ ys) k x ≡ y ∷ insert ys n x) e refl

place_within : {X : Type 0} (p : X → Bool) (xs : List X) → position_or_len p xs ≤ length xs
place_within p xs = prefix_len-le-length (λ z. not (p z)) xs

-- the place, as a count of the elements before it
pub place-prefix : {X : Type 0} (p : X → Bool) (xs : List X) → place_before p xs ≡ position_or_len p xs
place-prefix p xs =
    elim (nat_lt (position_or_len p xs) (length xs)) as (λ t. nat_lt (position_or_len p xs) (length xs) ≡ t → unwrap_or (cond t (Some (position_or_len p xs)) None) (length xs) ≡ position_or_len p xs) [
      | true ↦ λ e. refl
      | false ↦ λ e. let low : position_or_len p xs ≤ length xs = place_within p xs in let high : length xs ≤ position_or_len p xs = ltb-false _ _ e in omega arith
    ] refl

fits_yes : (z : ℤ) → FitsSigned w64 z → fits_i64 z ≡ true
fits_yes (pos n) h = grind (arith, nat_tests)
fits_yes (negsuc n) h = grind (arith, nat_tests)

fits_no : (z : ℤ) → fits_i64 z ≡ true → FitsSigned w64 z
fits_no (pos n) h = grind (arith, nat_tests)
fits_no (negsuc n) h = grind (arith, nat_tests)

-- what `checked_add` gives
pub checked_is : (r : Option ℤ) (z : ℤ) → SomeIff r (FitsSigned w64 z) z → r ≡ cond (fits_i64 z) (Some z) None
checked_is (Some x) z h = ap Some h.1 ∙ sym (ap (λ t. cond t (Some z) None) (fits_yes z h.0))
checked_is None z h =
    elim (fits_i64 z) as (λ t. fits_i64 z ≡ t → None ≡ cond t (Some z) None) [
      | true ↦ λ e. absurd (h (fits_no z e))
      | false ↦ λ e. refl
    ] refl
