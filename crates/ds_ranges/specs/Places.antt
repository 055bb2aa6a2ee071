-- The first of a list that passes a test, by its place.
use Rattle.std.specs.Prelude.{◌≡◌, ℕ, zero, suc, Bool, true, false, List, [], ◌∷◌, Option, Some, None}
use Rattle.std.specs.List.Sorted.{IsPartitionPoint}
use Rattle.ds_rule.specs.Pieces.{Each}

-- the one at this place passes, and none before it does
abbrev pub IsFirst : {X : Type 0} → (X → Bool) → List X → ℕ → Type 0
IsFirst p [] i = ⊥
IsFirst p (x ∷ xs) zero = p x ≡ true
IsFirst p (x ∷ xs) (suc i) = (p x ≡ false) × IsFirst p xs i

-- so it is at this place, or none passes
abbrev pub IsFirstOf : {X : Type 0} → (X → Bool) → List X → Option ℕ → Type 0
IsFirstOf p xs None = Each (λ x. p x ≡ false) xs
IsFirstOf p xs (Some i) = IsFirst p xs i

-- those before the place pass, and from there on none does
abbrev pub IsPoint : {X : Type 0} → (X → Bool) → List X → ℕ → Type 0
IsPoint p xs i = IsPartitionPoint (λ x. p x ≡ true) (λ x. p x ≡ false) xs i
