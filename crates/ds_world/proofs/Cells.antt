-- The cells of a range, below a key and from it on, and of two ranges together.
use Rattle.std.proofs.Common.{◌≡◌, ℕ, Bool, true, false, cond, List, [], ◌∷◌, ◌++◌, refl, ap, ◌∙◌}
use Rattle.std.specs.List.{filter}
use Rattle.ds_base.specs.Order.{key_lt, key_le}
use Rattle.ds_base.specs.Ordered.{AllOver, Ascends}
use Rattle.ds_base.proofs.KeyOrder.{key_le_lt-trans}
use Rattle.ds_base.proofs.OrderedFacts.{le_of_lt, le_of_not_lt, le_trans, lt_le_trans, not_le_of_lt, not_lt_of_le}
use Rattle.ds_base.proofs.SmallFacts.{and_first, and_second, and_both}
use Rattle.ds_cell.specs.Ask.{Cell, key_of}
use Rattle.ds_rule.specs.World.{Inside}

abbrev pub low_cells : List ℕ → List Cell → List Cell
low_cells k cells = filter (λ p. key_lt p.0 k) cells

abbrev pub high_cells : List ℕ → List Cell → List Cell
high_cells k cells = filter (λ p. key_le k p.0) cells

over-filter : (f : Cell → Bool) (k : List ℕ) (cells : List Cell) → AllOver key_of k cells → AllOver key_of k (filter f cells)
over-filter f k [] all = tt
over-filter f k (p ∷ ps) all = elim (f p) as (λ b. AllOver key_of k (cond b (p ∷ filter f ps) (filter f ps))) [
  | true ↦ (all.0, over-filter f k ps all.1)
  | false ↦ over-filter f k ps all.1
]

pub ascends-filter : (f : Cell → Bool) (cells : List Cell) → Ascends key_of cells → Ascends key_of (filter f cells)
ascends-filter f [] asc = tt
ascends-filter f (p ∷ ps) asc = elim (f p) as (λ b. Ascends key_of (cond b (p ∷ filter f ps) (filter f ps))) [
  | true ↦ (over-filter f p.0 ps asc.0, ascends-filter f ps asc.1)
  | false ↦ ascends-filter f ps asc.1
]

pub inside-low : (s e k : List ℕ) (cells : List Cell) → Inside s e cells → Inside s k (low_cells k cells)
inside-low s e k [] all = tt
inside-low s e k (p ∷ ps) all = elim (key_lt p.0 k) as (λ b. key_lt p.0 k ≡ b → Inside s k (cond b (p ∷ low_cells k ps) (low_cells k ps))) [
  | true ↦ λ h. (and_both _ _ (and_first (key_le s p.0) _ all.0) h, inside-low s e k ps all.1)
  | false ↦ λ h. inside-low s e k ps all.1
] refl

pub inside-high : (s e k : List ℕ) (cells : List Cell) → Inside s e cells → Inside k e (high_cells k cells)
inside-high s e k [] all = tt
inside-high s e k (p ∷ ps) all = elim (key_le k p.0) as (λ b. key_le k p.0 ≡ b → Inside k e (cond b (p ∷ high_cells k ps) (high_cells k ps))) [
  | true ↦ λ h. (and_both _ _ h (and_second (key_le s p.0) _ all.0), inside-high s e k ps all.1)
  | false ↦ λ h. inside-high s e k ps all.1
] refl

-- above the key there are none below it, and all from it on
none-low : (k : List ℕ) (q : List ℕ) (cells : List Cell) → key_le k q ≡ true → AllOver key_of q cells → low_cells k cells ≡ []
none-low k q [] from all = refl
none-low k q (p ∷ ps) from all =
    ap (λ t. cond t (p ∷ low_cells k ps) (low_cells k ps)) (not_lt_of_le k p.0 (le_of_lt k p.0 (key_le_lt-trans k q p.0 from all.0)))
    ∙ none-low k q ps from all.1

all-high : (k : List ℕ) (q : List ℕ) (cells : List Cell) → key_le k q ≡ true → AllOver key_of q cells → high_cells k cells ≡ cells
all-high k q [] from all = refl
all-high k q (p ∷ ps) from all =
    ap (λ t. cond t (p ∷ high_cells k ps) (high_cells k ps)) (le_of_lt k p.0 (key_le_lt-trans k q p.0 from all.0))
    ∙ ap (λ zs. p ∷ zs) (all-high k q ps from all.1)

-- both parts together are the whole
pub both-parts : (k : List ℕ) (cells : List Cell) → Ascends key_of cells → low_cells k cells ++ high_cells k cells ≡ cells
both-parts k [] asc = refl
both-parts k (p ∷ ps) asc =
    elim (key_lt p.0 k) as (λ b. key_lt p.0 k ≡ b → cond b (p ∷ low_cells k ps) (low_cells k ps) ++ high_cells k (p ∷ ps) ≡ p ∷ ps) [
      | true ↦ λ low.
          ap (λ t. p ∷ (low_cells k ps ++ cond t (p ∷ high_cells k ps) (high_cells k ps))) (not_le_of_lt p.0 k low)
          ∙ ap (λ zs. p ∷ zs) (both-parts k ps asc.1)
      | false ↦ λ high.
          let from : key_le k p.0 ≡ true = le_of_not_lt p.0 k high in
          ap (λ zs. zs ++ high_cells k (p ∷ ps)) (none-low k p.0 ps from asc.0)
          ∙ ap (λ t. cond t (p ∷ high_cells k ps) (high_cells k ps)) from
          ∙ ap (λ zs. p ∷ zs) (all-high k p.0 ps from asc.0)
    ] refl

-- ---- two ranges together

pub inside-wider : (s e m n : List ℕ) (cells : List Cell) → key_le m s ≡ true → key_le e n ≡ true → Inside s e cells → Inside m n cells
inside-wider s e m n [] low high all = tt
inside-wider s e m n (p ∷ ps) low high all = (
  and_both _ _ (le_trans m s p.0 low (and_first _ _ all.0)) (lt_le_trans p.0 e n (and_second (key_le s p.0) _ all.0) high),
  inside-wider s e m n ps low high all.1,
)

pub inside-both : (s e : List ℕ) (xs ys : List Cell) → Inside s e xs → Inside s e ys → Inside s e (xs ++ ys)
inside-both s e [] ys a b = b
inside-both s e (x ∷ xs) ys a b = (a.0, inside-both s e xs ys a.1 b)
