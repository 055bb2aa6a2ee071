-- How the ends of transactions in a piece change the records, told of the records alone.
use Rattle.std.specs.Prelude.{Bool, List, [], ◌∷◌, Option, Some, None, if◌then◌else◌}
use Rattle.ds_base.specs.Order.{Extent}
use Rattle.ds_base.specs.declared.value.TxnNo.{TxnNo}
use Rattle.ds_kind.specs.declared.batch.Head.{Head}
use Rattle.ds_kind.specs.declared.batch.Item.{Item}
use Rattle.ds_kind.specs.declared.reply.Reply.{Reply}
use Rattle.ds_kind.specs.declared.request.Request.{Request}
use Rattle.ds_kind.specs.declared.request.Request.TheVariants.{EndTxn}
use Rattle.ds_rule.specs.declared.record.RecordStatus.{RecordStatus}
use Rattle.ds_rule.specs.declared.record.RecordStatus.TheVariants as Status
use Rattle.ds_rule.specs.declared.record.TxnRecord.{TxnRecord}
use Rattle.ds_rule.specs.Asking.{Made, Gives, Fails}
use Rattle.ds_rule.specs.Records.{with_record}

-- a pending record ends; one that is decided or staging stays
abbrev pub ended_status : Bool → RecordStatus → RecordStatus
ended_status commit Status.Pending = if commit then Status.Committed else Status.Aborted
ended_status commit Status.Committed = Status.Committed
ended_status commit Status.Aborted = Status.Aborted
ended_status commit (Status.Staging fs) = Status.Staging fs

abbrev pub ended : Bool → TxnRecord → TxnRecord
ended commit t = record t { status = ended_status commit t.status }

-- who has no transaction ends nothing
abbrev pub ended_of : Option TxnNo → Bool → List TxnRecord → List TxnRecord
ended_of None commit ts = ts
ended_of (Some n) commit ts = with_record n.0 (ended commit) ts

abbrev pub ended_by : Head → Request → List TxnRecord → List TxnRecord
ended_by h (EndTxn a) ts = ended_of h.txn a.commit ts
ended_by h r ts = ts

-- a request that is still to be asked ended nothing
abbrev pub ended_unless : Option Extent → Head → Request → List TxnRecord → List TxnRecord
ended_unless None h r ts = ended_by h r ts
ended_unless (Some rest) h r ts = ts

-- in order, with the reply to each
abbrev pub all_ended : Head → List Item → List Reply → List TxnRecord → List TxnRecord
all_ended h [] rs ts = ts
all_ended h (i ∷ is) [] ts = ts
all_ended h (i ∷ is) (r ∷ rs) ts = all_ended h is rs (ended_unless r.resume h i.request ts)

-- the records after a piece of which this was made
abbrev pub records_made : Head → List Item → Made → List TxnRecord → List TxnRecord
records_made h is (Fails f) ts = ts
records_made h is (Gives cells ws rs) ts = all_ended h is rs ts
