-- The requests of a piece, asked of what one range holds, with what is left of a limit and by the records of transactions.
use Rattle.std.specs.Prelude.{ℕ, List, [], ◌∷◌, map, Option, Some, None, if◌then◌else◌}
use Rattle.ds_base.specs.Order.{Extent, holds}
use Rattle.ds_base.specs.declared.value.Stamp.{Stamp}
use Rattle.ds_kind.specs.Left.{is_used_up, left_after}
use Rattle.ds_kind.specs.Request.{span_of}
use Rattle.ds_kind.specs.declared.batch.Head.{Head}
use Rattle.ds_kind.specs.declared.batch.Item.{Item}
use Rattle.ds_kind.specs.declared.request.Request.{Request}
use Rattle.ds_kind.specs.declared.request.Request.TheVariants.{ResolveIntent, ResolveIntentRange}
use Rattle.ds_cell.specs.Ask.{Cell, Cells}
use Rattle.ds_cell.specs.Change.{settled}
use Rattle.ds_rule.specs.declared.record.RecordStatus.{RecordStatus}
use Rattle.ds_rule.specs.declared.record.RecordStatus.TheVariants as Status
use Rattle.ds_rule.specs.declared.record.TxnRecord.{TxnRecord}
use Rattle.ds_rule.specs.Asking.{Made, Gives, Fails, and_before}
use Rattle.ds_rule.specs.Limited.{ask_left}
use Rattle.ds_rule.specs.Records.{record_of}

-- the stamp at which writes become versions, or that they are dropped; nothing is known of a pending or staging record
abbrev pub decided_by : Stamp → RecordStatus → Option (Option Stamp)
decided_by s Status.Pending = None
decided_by s Status.Committed = Some (Some s)
decided_by s Status.Aborted = Some None
decided_by s (Status.Staging fs) = None

abbrev pub decided : Option TxnRecord → Option (Option Stamp)
decided None = None
decided (Some t) = decided_by t.stamp t.status

-- the number of the transaction whose intents a request resolves
abbrev pub resolves : Request → Option ℕ
resolves (ResolveIntent a) = Some a.txn.0
resolves (ResolveIntentRange a) = Some a.txn.0
resolves r = None

-- the intents of a transaction settled, at the keys of a span alone
abbrev pub settle_one : Extent → ℕ → Option Stamp → Cell → Cell
settle_one e txn commit p = if holds e.start e.end p.0 then (p.0, settled txn commit p.1) else p

abbrev pub settle_in : Extent → ℕ → Option Stamp → Cells → Cells
settle_in e txn commit cells = map (settle_one e txn commit) cells

abbrev pub settle_as : Extent → ℕ → Option (Option Stamp) → Cells → Cells
settle_as e txn None cells = cells
settle_as e txn (Some commit) cells = settle_in e txn commit cells

abbrev pub resolved_for : List TxnRecord → Extent → Option ℕ → Cells → Cells
resolved_for ts e None cells = cells
resolved_for ts e (Some n) cells = settle_as e n (decided (record_of n ts)) cells

-- what a request resolves, by the records
abbrev pub resolved : List TxnRecord → Request → Cells → Cells
resolved ts r cells = resolved_for ts (span_of r) (resolves r) cells

-- where nothing is left of the limit, nothing is resolved
abbrev pub resolved_left : List TxnRecord → Option ℕ → Request → Cells → Cells
resolved_left ts left r cells = if is_used_up left then cells else resolved ts r cells

-- the one after the other, which is asked of what the first left, with what it left of the limit
abbrev pub and_left : List TxnRecord → Option ℕ → Request → Made → (Option ℕ → Cells → Made) → Made
and_left ts left r (Fails f) next = Fails f
and_left ts left r (Gives cells ws rs) next = and_before ws rs (next (left_after left rs) (resolved_left ts left r cells))

-- the requests in order
abbrev pub serve : List TxnRecord → Head → Option ℕ → List Item → Cells → Made
serve ts h left [] cells = Gives cells [] []
serve ts h left (i ∷ is) cells = and_left ts left i.request (ask_left h left i cells) (λ rest now. serve ts h rest is now)

-- as a store is asked that knows no records
abbrev pub ask_limited : Head → Option ℕ → List Item → Cells → Made
ask_limited h left items cells = serve [] h left items cells
