-- The middle of a batch: what the world holds beside the store as it was before the batch.
use Rattle.std.specs.Prelude.{ℕ, List, Option}
use Rattle.ds_kind.specs.declared.batch.Item.{Item}
use Rattle.ds_cell.specs.declared.entry.Version.{Version}
use Rattle.ds_cell.specs.Store.{Store, StoreTxn}
use Rattle.ds_rule.specs.Asking.{Asking}
use Rattle.ds_rule.specs.Keeping.{Keeps}
use Rattle.ds_rule.specs.StandsFor.{IsIntentOf}
use Rattle.ds_rule.specs.World.{World, cell_of}
use Rattle.ds_turn.specs.Progress.{BatchPartway}
use Rattle.ds_mean.specs.Means.{CopiesStand, RecordsFit}

-- p is the store before the batch. At each key the items of `acted` acted so far, the first ones that the batch has there, and
-- other clients wrote vs since; the open transaction is o by now, and the intents are its own
pub record Midway (s : ℕ) (q : Asking) (acted : List ℕ → List Item) (vs : List ℕ → List Version) (o : Option StoreTxn) (w : World) (p : Store) : Type 0 where
  pub keeps : Keeps w
  pub partway : BatchPartway s q acted vs (cell_of w) p.cells
  pub intents : (k : List ℕ) → IsIntentOf o (cell_of w k)
  pub records : RecordsFit o p.begun w.records
  pub copies : CopiesStand w.copies
