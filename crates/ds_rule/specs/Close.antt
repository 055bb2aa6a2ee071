-- How a transaction begins and ends in the world.
use Rattle.std.specs.Prelude.{◌≡◌, ℕ, ◌<◌, List, [], ◌∷◌, ◌++◌, map, Option, Some, None, refl}
use Rattle.ds_base.specs.declared.value.Stamp.{Stamp}
use Rattle.ds_kind.specs.declared.reply.TxnStatus.{TxnStatus}
use Rattle.ds_kind.specs.declared.reply.TxnStatus.TheVariants as Says
use Rattle.ds_cell.specs.Ask.{Cells}
use Rattle.ds_cell.specs.Change.{settled}
use Rattle.ds_cell.specs.Seen.{last_of}
use Rattle.ds_cell.specs.Store.{Asker}
use Rattle.ds_rule.specs.declared.record.TxnRecord.{TxnRecord}
use Rattle.ds_rule.specs.declared.record.RecordStatus.{RecordStatus}
use Rattle.ds_rule.specs.declared.record.RecordStatus.TheVariants as Status
use Rattle.ds_rule.specs.Moves.{abort_last}
use Rattle.ds_rule.specs.Records.{aborted, record_of, with_last}
use Rattle.ds_rule.specs.Serve.{decided_by}
use Rattle.ds_rule.specs.World.{World, Range}

abbrev pub new_record : Asker → TxnRecord
new_record t = record { txn = record { 0 = t.number }; stamp = record { 0 = t.stamp }; epoch = t.epoch; status = Status.Pending }

-- it may begin: its number is above 0, which a piece without a transaction has, and no record has it
pub record CanBegin (t : Asker) (w : World) : Type 0 where
  pub above : 0 < t.number
  pub fresh : record_of t.number w.records ≡ None

-- the transaction has a pending record, the last; where its number is given already, the earlier record is found in its place
abbrev pub with_begin : Asker → World → World
with_begin t w = record w { records = w.records ++ new_record t ∷ [] }

abbrev pub said_status : RecordStatus → TxnStatus
said_status Status.Pending = Says.Aborted
said_status Status.Committed = Says.Committed
said_status Status.Aborted = Says.Aborted
said_status (Status.Staging fs) = Says.Aborted

abbrev pub status_of_last : Option TxnRecord → TxnStatus
status_of_last None = Says.Aborted
status_of_last (Some t) = said_status t.status

-- the status that the open transaction ends with
abbrev pub close_status : World → TxnStatus
close_status w = status_of_last (last_of w.records)

-- what nothing decided is dropped
abbrev pub or_dropped : Option (Option Stamp) → Option Stamp
or_dropped None = None
or_dropped (Some commit) = commit

-- the stamp at which its writes become versions, if they do
abbrev pub commit_of : RecordStatus → Stamp → Option Stamp
commit_of status s = or_dropped (decided_by s status)

abbrev pub settle_cells : ℕ → Option Stamp → Cells → Cells
settle_cells txn commit cells = map (λ p. (p.0, settled txn commit p.1)) cells

abbrev pub settle_range : ℕ → Option Stamp → Range → Range
settle_range txn commit r = record r { cells = settle_cells txn commit r.cells }

abbrev pub settle_by : Option TxnRecord → List Range → List Range
settle_by None rs = rs
settle_by (Some t) rs = map (settle_range t.txn.0 (commit_of t.status t.stamp)) rs

-- the open transaction, whose record is the last, ends: its record as an abort leaves it, and every intent of it is settled
abbrev pub closed : World → World
closed w = record (abort_last w) { ranges = settle_by (last_of w.records) w.ranges }

a_pending_record_is_aborted : with_last aborted (record { txn = record { 0 = 1 }; stamp = record { 0 = 5 }; epoch = 0; status = Status.Pending } ∷ []) ≡ record { txn = record { 0 = 1 }; stamp = record { 0 = 5 }; epoch = 0; status = Status.Aborted } ∷ []
a_pending_record_is_aborted = refl

an_earlier_record_stays : with_last aborted (record { txn = record { 0 = 1 }; stamp = record { 0 = 5 }; epoch = 0; status = Status.Pending } ∷ record { txn = record { 0 = 2 }; stamp = record { 0 = 6 }; epoch = 0; status = Status.Committed } ∷ []) ≡ record { txn = record { 0 = 1 }; stamp = record { 0 = 5 }; epoch = 0; status = Status.Pending } ∷ record { txn = record { 0 = 2 }; stamp = record { 0 = 6 }; epoch = 0; status = Status.Committed } ∷ []
an_earlier_record_stays = refl
