-- What a served piece makes of the world, as its keys show it.
use Rattle.std.specs.Prelude.{◌≡◌, ℕ, ◌⊎◌, List, []}
use Rattle.ds_base.specs.Ordered.{Ascends}
use Rattle.ds_kind.specs.declared.batch.Piece.{Piece}
use Rattle.ds_kind.specs.declared.reply.Reply.{Reply}
use Rattle.ds_cell.specs.Ask.{Cells, key_of, content_at}
use Rattle.ds_cell.specs.Content.{no_content}
use Rattle.ds_cell.specs.Store.{WriteAt}
use Rattle.ds_rule.specs.Asking.{Gives, finished}
use Rattle.ds_rule.specs.Keeping.{Keeps}
use Rattle.ds_rule.specs.Serve.{serve}
use Rattle.ds_rule.specs.Turn.{items_at}
use Rattle.ds_rule.specs.World.{World, cell_of}

-- at a key of the range: it held there what the world did, and what the piece made of it stands there now
pub record InRange (w v : World) (p : Piece) (x out : Cells) (ws : List WriteAt) (k : List ℕ) : Type 0 where
  pub there : content_at k x ≡ cell_of w k
  pub now : cell_of v k ≡ content_at k (finished p.head ws out)

-- at any other key: it held nothing, no item speaks of the key, and nothing changed
pub record Beside (w v : World) (p : Piece) (x : Cells) (k : List ℕ) : Type 0 where
  pub empty : content_at k x ≡ no_content
  pub none : items_at k p.items ≡ []
  pub same : cell_of v k ≡ cell_of w k

-- from w to v: a range that held x served the piece, which ends no transaction
pub record Served (w v : World) (p : Piece) (rs : List Reply) : Type 0 where
  pub held : Cells
  pub out : Cells
  pub writes : List WriteAt
  pub ascends : Ascends key_of held
  pub gives : serve w.records p.head p.head.left p.items held ≡ Gives out writes rs
  pub at : (k : List ℕ) → InRange w v p held out writes k ⊎ Beside w v p held k
  pub keeps : Keeps v
  pub records : v.records ≡ w.records
  pub copies : v.copies ≡ w.copies
