-- The first end among a piece's items, and how what it did to a record is put back.
use Rattle.std.specs.Prelude.{Bool, true, false, List, [], ◌∷◌, Option, Some, None}
use Rattle.std.specs.Option.{option_or}
use Rattle.ds_base.specs.Order.{Extent}
use Rattle.ds_base.specs.declared.value.TxnNo.{TxnNo}
use Rattle.ds_kind.specs.declared.batch.Item.{Item}
use Rattle.ds_kind.specs.declared.reply.Reply.{Reply}
use Rattle.ds_kind.specs.declared.request.Request.{Request}
use Rattle.ds_kind.specs.declared.request.Request.TheVariants.{EndTxn}
use Rattle.ds_rule.specs.declared.record.RecordStatus.{RecordStatus}
use Rattle.ds_rule.specs.declared.record.RecordStatus.TheVariants as Status
use Rattle.ds_rule.specs.declared.record.TxnRecord.{TxnRecord}
use Rattle.ds_rule.specs.Records.{with_record, with_status}

abbrev pub status_pending : RecordStatus → Bool
status_pending Status.Pending = true
status_pending Status.Committed = false
status_pending Status.Aborted = false
status_pending (Status.Staging fs) = false

abbrev pub is_pending : Option TxnRecord → Bool
is_pending None = false
is_pending (Some t) = status_pending t.status

-- whether an end commits; nothing where it is no end
abbrev pub commits_in : Request → Option Bool
commits_in (EndTxn a) = Some a.commit
commits_in r = None

-- a request that is still to be asked is none yet
abbrev pub commits : Option Extent → Request → Option Bool
commits None r = commits_in r
commits (Some rest) r = None

abbrev pub first_end : List Item → List Reply → Option Bool
first_end [] rs = None
first_end (i ∷ is) [] = None
first_end (i ∷ is) (r ∷ rs) = option_or (commits r.resume i.request) (first_end is rs)

-- the record that an end changed was pending before
abbrev pub reopened : Option TxnNo → List TxnRecord → List TxnRecord
reopened None ts = ts
reopened (Some n) ts = with_record n.0 (with_status Status.Pending) ts
