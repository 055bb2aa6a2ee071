-- What isn't covered.
use Rattle.std.proofs.Common.{◌≡◌, ℕ, List, [], ◌∷◌, sym, inl, inr}
use Rattle.ds_cover.specs.Coverage.{Shares}

never : {w : ℕ} {ws : List ℕ} → w ∷ ws ≡ [] → ⊥
never h = cc

-- two blocks both have it
not_twice : Shares (1 ∷ []) ((1 ∷ []) ∷ (1 ∷ []) ∷ []) → ⊥
not_twice h =
    elim h [
      | inl g ↦ never g.1.0
      | inr g ↦ never g.0
    ]

-- no block has it
not_lost : Shares (1 ∷ []) ([] ∷ []) → ⊥
not_lost h =
    elim h [
      | inl g ↦ never (sym g.0)
      | inr g ↦ never g.1
    ]

-- each of two blocks has one of two
not_apart : Shares (1 ∷ 2 ∷ []) ((1 ∷ []) ∷ (2 ∷ []) ∷ []) → ⊥
not_apart h =
    elim h [
      | inl g ↦ never g.1.0
      | inr g ↦ never g.0
    ]

-- in the wrong order
not_turned : Shares (1 ∷ 2 ∷ []) ((2 ∷ 1 ∷ []) ∷ []) → ⊥
not_turned h =
    elim h [
      | inl g ↦ turned g.0
      | inr g ↦ never g.0
    ]
  where
    turned : ◌≡◌ {A = List ℕ} (2 ∷ 1 ∷ []) (1 ∷ 2 ∷ []) → ⊥
    turned h = cc
