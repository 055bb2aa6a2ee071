-- How much of an item may be asked, with what is left of a limit.
use Rattle.std.specs.Prelude.{◌≡◌, ℕ, true, List, [], ◌∷◌, Option, Some, None}
use Rattle.std.specs.List.{list_all}
use Rattle.ds_kind.specs.Asks.{has_proper_span, has_room}
use Rattle.ds_kind.specs.Bodies.{empty_body}
use Rattle.ds_kind.specs.Parts.{requests_of}
use Rattle.ds_kind.specs.declared.batch.Head.{Head}
use Rattle.ds_kind.specs.declared.batch.Item.{Item}
use Rattle.ds_cell.specs.Ask.{Cell, Cells}
use Rattle.ds_rule.specs.Asking.{Made, Gives, ask_item}
use Rattle.ds_rule.specs.Limited.{with_rest}
use Rattle.ds_rule.specs.Pieces.{Each}
use Rattle.ds_serve.specs.declared.limit.Share.{Share}

-- the item asked by its share: whole, a part of it with what is left of its span, or nothing of it
abbrev pub ask_share : Head → Item → Share → Cells → Made
ask_share h i Share.Whole cells = ask_item h i cells
ask_share h i (Share.Part part rest) cells = with_rest (Some rest) (ask_item h part cells)
ask_share h i (Share.Nothing rest) cells = Gives cells [] (record { body = empty_body i.request; resume = Some rest } ∷ [])

-- the key after the cell's key is a key too
abbrev pub HasRoom : Cell → Type 0
HasRoom p = has_room p.0 ≡ true

-- under a limit, what is left of an item's span can be said: the spans are proper, and after each key that stands here there
-- is room for one more
abbrev pub CanResume : Option ℕ → List Item → Cells → Type 0
CanResume None is cells = Unit {0}
CanResume (Some n) is cells = (list_all has_proper_span (requests_of is) ≡ true) × Each HasRoom cells
