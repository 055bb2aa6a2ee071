-- How much of a span may be settled where memory was wanting.
use Rattle.std.specs.Prelude.{◌≡◌, ℕ, [], ◌∷◌, Option, Some, None, ◌⊎◌, refl}
use Rattle.std.proofs.Common.{inl, inr}
use Rattle.ds_base.specs.Order.{Extent}
use Rattle.ds_base.specs.declared.value.Stamp.{Stamp}
use Rattle.ds_cell.specs.Ask.{Cell, Cells}
use Rattle.ds_cell.specs.Change.{settled}
use Rattle.ds_cell.specs.Content.{no_content}
use Rattle.ds_rule.specs.Serve.{settle_one}

-- each is as before, or changed
abbrev pub PartlyAs : (Cell → Cell) → Cells → Cells → Type 0
PartlyAs f [] [] = Unit {0}
PartlyAs f [] (q ∷ qs) = ⊥
PartlyAs f (p ∷ ps) [] = ⊥
PartlyAs f (p ∷ ps) (q ∷ qs) = ((q ≡ p) ⊎ (q ≡ f p)) × PartlyAs f ps qs

-- the transaction's intent at a key settled
abbrev pub settle_cell : ℕ → Option Stamp → Cell → Cell
settle_cell txn commit p = (p.0, settled txn commit p.1)

-- the transaction's intents at some keys of the span are settled, if its record is decided, and all else is as before
abbrev pub PartlySettled : Extent → ℕ → Option (Option Stamp) → Cells → Cells → Type 0
PartlySettled e txn None old new = new ≡ old
PartlySettled e txn (Some commit) old new = PartlyAs (settle_one e txn commit) old new

abbrev old_cell : Cell
old_cell = (97 ∷ [], no_content)

abbrev new_cell : Cell
new_cell = (98 ∷ [], no_content)

a_changed_one_is_partly_so : PartlyAs (λ p. new_cell) (old_cell ∷ old_cell ∷ []) (old_cell ∷ new_cell ∷ [])
a_changed_one_is_partly_so = (inl refl, (inr refl, tt))

a_lost_one_is_not : PartlyAs (λ p. new_cell) (old_cell ∷ []) [] → ⊥
a_lost_one_is_not h = h
