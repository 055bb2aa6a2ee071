-- A piece served at its range.
use Rattle.std.specs.Prelude.{◌≡◌, ℕ, true, List, Option, Some, None, option_map, find}
use Rattle.std.specs.List.{list_all}
use Rattle.ds_kind.specs.declared.batch.Piece.{Piece}
use Rattle.ds_range.specs.Evaluates.{answer_to, ended_in, kept_of}
use Rattle.ds_range.specs.Keeps.{Kept, restored}
use Rattle.ds_range.specs.Serves.{after_made}
use Rattle.ds_range.specs.declared.piece.Evaluation.{Evaluation}
use Rattle.ds_rule.specs.declared.answer.Answer.{Answer}
use Rattle.ds_rule.specs.declared.record.TxnRecord.{TxnRecord}
use Rattle.ds_cell.specs.Ask.{Cells}
use Rattle.ds_rule.specs.Asking.{Made}
use Rattle.ds_rule.specs.Deliver.{answer_made, holds_item, with_cells}
use Rattle.ds_rule.specs.Endings.{records_made}
use Rattle.ds_rule.specs.Serve.{serve}
use Rattle.ds_rule.specs.World.{World, Range, has_id, replaced}
use Rattle.ds_serve.specs.Ends.{reopened}
use Rattle.ds_ranges.specs.Layout.{Became, Layout, layout}

-- what a piece makes of a range's contents, by the records
abbrev pub made_of : List TxnRecord → Piece → Range → Made
made_of ts p r = serve ts p.head p.head.left p.items r.cells

-- what the range holds afterwards
abbrev pub after_piece : Piece → List TxnRecord → Range → Cells
after_piece p ts r = after_made p.head (made_of ts p r) r.cells

-- what it is answered there, if there is such a range
abbrev pub answered_at : List TxnRecord → Piece → Option Range → Option Answer
answered_at ts p None = None
answered_at ts p (Some r) = Some (answer_made (made_of ts p r))

-- the range with its id holds what the piece made, if there is one
abbrev pub held_at : List TxnRecord → Piece → Option Range → World → World
held_at ts p None w = w
held_at ts p (Some r) w = with_cells p.range (after_piece p ts r) w

-- the records after its ends
abbrev pub records_at : List TxnRecord → Piece → Option Range → List TxnRecord
records_at ts p None = ts
records_at ts p (Some r) = records_made p.head p.items (made_of ts p r) ts

-- all its items lie in the range
abbrev pub HoldsItems : Piece → Option Range → Type 0
HoldsItems p None = Unit {0}
HoldsItems p (Some r) = list_all (holds_item r) p.items ≡ true

-- the range with the id with what was kept put back
abbrev pub put_back_at : ℕ → List Kept → List Range → List Range
put_back_at id kept rs = replaced (has_id id) (λ r. record r { cells = restored kept r.cells }) rs

-- a piece of which this became, undone
abbrev pub taken_back : ℕ → Option Evaluation → Layout → Layout
taken_back id None l = l
taken_back id (Some e) l = layout (put_back_at id (kept_of e) l.ranges) l.descs

abbrev pub reopened_by : Option Evaluation → List TxnRecord → List TxnRecord
reopened_by None ts = ts
reopened_by (Some e) ts = reopened (ended_in e) ts

-- the range made this of the piece, and the records with it; all of it can be undone
pub record ServesPiece (p : Piece) (ts us : List TxnRecord) (r : Range) (e : Evaluation) : Type 0 where
  pub answer : answer_to e ≡ answer_made (made_of ts p r)
  pub records : us ≡ records_made p.head p.items (made_of ts p r) ts
  pub back : restored (kept_of e) (after_piece p ts r) ≡ r.cells
  pub reopens : reopened (ended_in e) us ≡ ts

-- the range with the piece's id made this of it, if there is one; nothing became of it otherwise
pub record Applies (p : Piece) (ts us : List TxnRecord) (old new : Layout) (o : Option Evaluation) : Type 0 where
  pub answer : option_map answer_to o ≡ answered_at ts p (find (has_id p.range) old.ranges)
  pub after : Became (held_at ts p (find (has_id p.range) old.ranges)) old new
  pub records : us ≡ records_at ts p (find (has_id p.range) old.ranges)
  pub back : taken_back p.range o new ≡ old
  pub reopens : reopened_by o us ≡ ts
