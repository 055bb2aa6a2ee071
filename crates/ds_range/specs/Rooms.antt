-- What a range keeps of its contents.
use Rattle.std.specs.Prelude.{◌≡◌, ℕ, true, false, List, [], ◌∷◌, Option, Some, None}
use Rattle.ds_cell.specs.Ask.{Cells}
use Rattle.ds_cell.specs.Content.{no_content}
use Rattle.ds_rule.specs.Pieces.{Each}
use Rattle.ds_serve.specs.Shares.{HasRoom}
use Rattle.ds_range.specs.Covers.{CoversIf}

-- keys among which are all that have writes, where such keys are known; and each key has room for one more byte, so that what is
-- left of a span behind it can be said
pub record IsKept (written : Option (List (List ℕ))) (cells : Cells) : Type 0 where
  pub covers : CoversIf written cells
  pub room : Each HasRoom cells

the_bound_is_kept_nowhere : IsKept None ((255 ∷ 255 ∷ [], no_content) ∷ []) → ⊥
the_bound_is_kept_nowhere h = let no : false ≡ true = h.room.0 in cc
