-- The records of transactions, found and changed by their numbers.
use Rattle.std.specs.Prelude.{ℕ, Bool, true, false, ◌≡◌, List, [], ◌∷◌, Option, find, nat_lt, ◌==◌, if◌then◌else◌}
use Rattle.std.specs.List.Sorted.{IsPartitionPoint}
use Rattle.ds_cell.specs.Content.{Rises}
use Rattle.ds_rule.specs.declared.record.TxnRecord.{TxnRecord}
use Rattle.ds_rule.specs.declared.record.RecordStatus.{RecordStatus}
use Rattle.ds_rule.specs.declared.record.RecordStatus.TheVariants as Status

abbrev pub record_number : TxnRecord → ℕ
record_number t = t.txn.0

-- the record of a transaction, by its number
abbrev pub record_of : ℕ → List TxnRecord → Option TxnRecord
record_of n ts = find (λ t. t.txn.0 == n) ts

-- the first record of the number, changed
abbrev pub with_record : ℕ → (TxnRecord → TxnRecord) → List TxnRecord → List TxnRecord
with_record n f [] = []
with_record n f (t ∷ ts) = if t.txn.0 == n then f t ∷ ts else t ∷ with_record n f ts

abbrev pub with_status : RecordStatus → TxnRecord → TxnRecord
with_status s t = record t { status = s }

-- ---- the open transaction's record, which is the last: an abort and a close end it, whatever its number

abbrev pub aborted_status : RecordStatus → RecordStatus
aborted_status Status.Pending = Status.Aborted
aborted_status Status.Committed = Status.Committed
aborted_status Status.Aborted = Status.Aborted
aborted_status (Status.Staging fs) = Status.Aborted

abbrev pub with_last_after : (TxnRecord → TxnRecord) → TxnRecord → List TxnRecord → List TxnRecord
with_last_after f t [] = f t ∷ []
with_last_after f t (u ∷ us) = t ∷ with_last_after f u us

-- the last of them, changed
abbrev pub with_last : (TxnRecord → TxnRecord) → List TxnRecord → List TxnRecord
with_last f [] = []
with_last f (t ∷ ts) = with_last_after f t ts

-- a record that isn't committed becomes aborted
abbrev pub aborted : TxnRecord → TxnRecord
aborted t = record t { status = aborted_status t.status }

-- ---- numbers that rise

-- the numbers rise where that is known
abbrev pub RisesIf : Bool → List TxnRecord → Type 0
RisesIf true ts = Rises record_number ts
RisesIf false ts = Unit {0}

-- the numbers before the place are below n, and from there on none is
abbrev pub IsFirstFrom : {X : Type 0} → (X → ℕ) → ℕ → List X → ℕ → Type 0
IsFirstFrom f n xs i = IsPartitionPoint (λ x. nat_lt (f x) n ≡ true) (λ x. nat_lt (f x) n ≡ false) xs i
