-- A piece of a part is one of its batch.
use Rattle.std.specs.Prelude.{◌≡◌, ℕ, ◌<◌, true, false, length, Option}
use Rattle.std.specs.List.{list_any}
use Rattle.ds_cover.specs.Items.{AreProper}
use Rattle.ds_cover.specs.Origins.{CutsOf}
use Rattle.ds_kind.specs.Asks.{is_end}
use Rattle.ds_kind.specs.Parts.{all_fit, all_items, requests_of}
use Rattle.ds_kind.specs.declared.batch.Part.{Part}
use Rattle.ds_kind.specs.declared.batch.Piece.{Piece}
use Rattle.ds_cell.specs.Content.{Rises}
use Rattle.ds_rule.specs.Asking.{Asking}
use Rattle.ds_rule.specs.Pieces.{IsOneOf, PieceOf, parts_apart, position_of}

-- cuts of a part's items, asked by the batch's head in the part's direction, where no item ends the transaction; the parts
-- are the batch, one after another, and the requests of each may stand together
abbrev pub PartsPieces : Type 0
PartsPieces =
    (q : Asking) (part : Part) (left : Option ℕ) (p : Piece) → all_items (parts_apart q.items) ≡ q.items → IsOneOf part (parts_apart q.items) → Rises position_of q.items → all_fit (requests_of part.items) ≡ true
    → p.head ≡ record (q.head) { left = left } → 0 < length p.items → CutsOf part.items p.items → AreProper p.items → list_any is_end (requests_of p.items) ≡ false → p.dir ≡ part.dir
    → PieceOf q left p
