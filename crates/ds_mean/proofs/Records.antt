-- The records after an event are to the store's transaction as they were before.
use Rattle.std.proofs.Common.{◌≡◌, ℕ, List, Option, Some, None, refl, ap}
use Rattle.std.specs.Option.{option_map}
use Rattle.ds_cell.specs.Store.{StoreTxn, Mode, Live, FailedSince, Unknown, OverWith, Fate, Pending, Committed, Aborted}
use Rattle.ds_law.proofs.Standing.{above-with_last, rises-last, up-to-last, with_last-last}
use Rattle.ds_rule.specs.declared.event.Event.{Event}
use Rattle.ds_rule.specs.declared.record.RecordStatus.{RecordStatus}
use Rattle.ds_rule.specs.declared.record.RecordStatus.TheVariants as Status
use Rattle.ds_rule.specs.declared.record.TxnRecord.{TxnRecord}
use Rattle.ds_rule.specs.Plain.{abort_txn, aborted_by}
use Rattle.ds_rule.specs.Records.{aborted, aborted_status, with_last}
use Rattle.ds_mean.specs.Means.{FitsFailed, FitsLive, HasOpenRecord, IsUncommitted, RecordsFit, StatusFits}
use Rattle.ds_mean.specs.Shows.{records_by, txn_by}

abort-live : (f : Fate) (s : RecordStatus) → FitsLive f s → FitsLive (aborted_by f Live) (aborted_status s)
abort-live Pending s h = ap aborted_status h
abort-live Committed s h = h
abort-live Aborted s h = ap aborted_status h

uncommitted-aborts : (s : RecordStatus) → IsUncommitted s → aborted_status s ≡ Status.Aborted
uncommitted-aborts Status.Pending h = refl
uncommitted-aborts Status.Committed h = absurd h
uncommitted-aborts Status.Aborted h = refl
uncommitted-aborts (Status.Staging fs) h = refl

abort-failed : (n : ℕ) (f : Fate) (s : RecordStatus) → FitsFailed f s → FitsFailed (aborted_by f (FailedSince n)) (aborted_status s)
abort-failed n Pending s h = uncommitted-aborts s h
abort-failed n Committed s h = h
abort-failed n Aborted s h = ap aborted_status h

abort-fits : (m : Mode) (f : Fate) (s : RecordStatus) → StatusFits m f s → StatusFits m (aborted_by f m) (aborted_status s)
abort-fits Live f s h = abort-live f s h
abort-fits (FailedSince n) f s h = abort-failed n f s h
abort-fits (Unknown ws) f s h = tt
abort-fits (OverWith t) Pending s h = ap aborted_status h
abort-fits (OverWith t) Committed s h = ap aborted_status h
abort-fits (OverWith t) Aborted s h = ap aborted_status h

abort-open : (o : Option StoreTxn) (rs : List TxnRecord) → HasOpenRecord o rs → HasOpenRecord (option_map abort_txn o) (with_last aborted rs)
abort-open None rs h = tt
abort-open (Some t) rs h = record {
  its = aborted h.its;
  last = with_last-last aborted h.its rs h.last;
  number = h.number;
  stamp = h.stamp;
  status = abort-fits t.mode t.fate h.its.status h.status;
}

abort-records : (o : Option StoreTxn) (begun : ℕ) (rs : List TxnRecord) → RecordsFit o begun rs → RecordsFit (option_map abort_txn o) begun (with_last aborted rs)
abort-records o begun rs h = record {
  recorded = abort-open o rs h.recorded;
  numbers = rises-last rs h.numbers;
  named = above-with_last 0 rs h.named;
  given = up-to-last begun rs h.given;
}

pub records-moved : (e : Event) (o : Option StoreTxn) (begun : ℕ) (rs : List TxnRecord) → RecordsFit o begun rs → RecordsFit (txn_by e o) begun (records_by e rs)
records-moved (Event.Write k s v) o begun rs h = h
records-moved Event.Abort o begun rs h = abort-records o begun rs h
records-moved (Event.Split k) o begun rs h = h
records-moved (Event.Merge k) o begun rs h = h
records-moved (Event.Lease k n) o begun rs h = h
records-moved (Event.Move k ns) o begun rs h = h
records-moved (Event.Stale k b) o begun rs h = h
records-moved (Event.Arrive c) o begun rs h = h
records-moved (Event.LoseRequest c) o begun rs h = h
records-moved (Event.LoseReply c) o begun rs h = h
records-moved (Event.Copy c) o begun rs h = h
records-moved (Event.Restart t) o begun rs h = h
