-- When a world stands for a plain store.
use Rattle.std.specs.Prelude.{◌≡◌, ℕ, ◌≤◌, ◌⊎◌, List, [], ◌∷◌, fold, Option, Some, None}
use Rattle.ds_base.specs.Ordered.{Ascends}
use Rattle.ds_base.specs.declared.value.TxnNo.{TxnNo}
use Rattle.ds_kind.specs.declared.batch.Batch.{Batch}
use Rattle.ds_cell.specs.Ask.{key_of, content_at}
use Rattle.ds_cell.specs.Change.{made}
use Rattle.ds_cell.specs.Content.{Content, AllAbove, Rises, stamp_of}
use Rattle.ds_cell.specs.Seen.{last_of}
use Rattle.ds_cell.specs.Store.{Store, StoreTxn, Mode, Live, FailedSince, Unknown, OverWith, Fate, Pending, Committed, Aborted}
use Rattle.ds_rule.specs.declared.record.TxnRecord.{TxnRecord}
use Rattle.ds_rule.specs.declared.record.RecordStatus.{RecordStatus}
use Rattle.ds_rule.specs.declared.record.RecordStatus.TheVariants as Status
use Rattle.ds_rule.specs.Asking.{Asking, asking}
use Rattle.ds_rule.specs.Clauses.{Stands}
use Rattle.ds_rule.specs.Journal.{Happening, Moved, Did}
use Rattle.ds_rule.specs.Keeping.{Keeps}
use Rattle.ds_rule.specs.Plain.{asker_in, after_event}
use Rattle.ds_rule.specs.Records.{record_number}
use Rattle.ds_rule.specs.World.{World, cell_of}

-- what the world holds at a key, and what the store holds there: the same writes of the transaction; foreign writes
-- that wait in the world are versions of the store already, and wait only beside an intent, above the stamp
pub record IsAt (stamp : ℕ) (c d : Content) : Type 0 where
  pub versions : d.versions ≡ fold made c.versions c.waiting
  pub none_waits : d.waiting ≡ []
  pub history : d.history ≡ c.history
  pub owner : d.owner ≡ c.owner
  pub epoch : d.epoch ≡ c.epoch
  pub waits : c.history ≡ [] → c.waiting ≡ []
  pub above : AllAbove stamp_of stamp c.waiting

abbrev pub AllUpTo : {X : Type 0} → (X → ℕ) → ℕ → List X → Type 0
AllUpTo f n [] = Unit {0}
AllUpTo f n (x ∷ xs) = (f x ≤ n) × AllUpTo f n xs

abbrev pub open_stamp : Option StoreTxn → ℕ
open_stamp None = 0
open_stamp (Some t) = t.asker.stamp

-- each intent is the open transaction's
abbrev pub IsIntentOf : Option StoreTxn → Content → Type 0
IsIntentOf None c = c.history ≡ []
IsIntentOf (Some t) c = (c.history ≡ []) ⊎ ((c.owner ≡ t.asker.number) × (c.epoch ≡ t.asker.epoch))

abbrev pub status_for : Fate → RecordStatus
status_for Pending = Status.Pending
status_for Committed = Status.Committed
status_for Aborted = Status.Aborted

abbrev pub record_for : StoreTxn → TxnRecord
record_for t = record {
  txn = record { 0 = t.asker.number };
  stamp = record { 0 = t.asker.stamp };
  epoch = t.asker.epoch;
  status = status_for t.fate;
}

-- the record says what the store knows, unless that is in doubt
abbrev pub HasRecord : Mode → StoreTxn → List TxnRecord → Type 0
HasRecord (Unknown ws) t rs = Unit {0}
HasRecord m t rs = last_of rs ≡ Some (record_for t)

-- the open transaction's record is the last
abbrev pub HasRecordOf : Option StoreTxn → List TxnRecord → Type 0
HasRecordOf None rs = Unit {0}
HasRecordOf (Some t) rs = HasRecord t.mode t rs

-- the world stands for the store: what it holds at each key is what the store holds there, its intents are the open
-- transaction's, and so is its last record; records have rising numbers from 1 on, none of them yet to come; and no copy is
-- under way
pub record StandsFor (w : World) (p : Store) : Type 0 where
  pub keeps : Keeps w
  pub rising : Ascends key_of p.cells
  pub same : (k : List ℕ) → IsAt (open_stamp p.txn) (cell_of w k) (content_at k p.cells)
  pub intents : (k : List ℕ) → IsIntentOf p.txn (cell_of w k)
  pub recorded : HasRecordOf p.txn w.records
  pub numbers : Rises record_number w.records
  pub named : AllAbove record_number 0 w.records
  pub begun : AllUpTo record_number p.begun w.records
  pub copies : w.copies ≡ []

-- the store after what happened: its moves alone matter
abbrev pub after_made : List Happening → Store → Store
after_made [] p = p
after_made (Moved e ∷ hs) p = after_made hs (after_event e p)
after_made (Did s ∷ hs) p = after_made hs p

-- a batch beside an open transaction asks at its stamp or below
abbrev pub IsBefore : Option StoreTxn → ℕ → Type 0
IsBefore None s = Unit {0}
IsBefore (Some t) s = s ≤ t.asker.stamp

-- what became of the transaction is known
abbrev pub IsKnown : Mode → Type 0
IsKnown Live = Unit {0}
IsKnown (FailedSince n) = Unit {0}
IsKnown (Unknown ws) = ⊥
IsKnown (OverWith s) = Unit {0}

-- who asks is no transaction, or one is open of which this holds
abbrev pub OfOpen : (TxnNo → StoreTxn → Type 0) → Option TxnNo → Option StoreTxn → Type 0
OfOpen P None o = Unit {0}
OfOpen P (Some n) None = ⊥
OfOpen P (Some n) (Some t) = P n t

-- it is the open one that asks
abbrev pub IsWho : Option TxnNo → Option StoreTxn → Type 0
IsWho n o = OfOpen (λ n t. n.0 ≡ t.asker.number) n o

-- and it is known what became of it
abbrev pub Knows : Option TxnNo → Option StoreTxn → Type 0
Knows n o = OfOpen (λ n t. IsKnown t.mode) n o

-- the wire is ready for the batch: its world stands for the store, and foreign writes stay above the batch's stamp and
-- the transaction's
pub record Ready (a : Stands) (p : Store) (b : Batch) (q : Asking) : Type 0 where
  pub stands : StandsFor a.world p
  pub asks : asking (asker_in p) b ≡ Some q
  pub who : IsWho q.head.txn p.txn
  pub knows : Knows q.head.txn p.txn
  pub before : IsBefore p.txn q.head.at.0
  pub floor : q.head.at.0 ≤ a.floor
  pub open_floor : open_stamp p.txn ≤ a.floor
