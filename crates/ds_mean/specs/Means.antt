-- When a world means a plain store: what it holds at each key, its records and its late copies, beside what the store says.
use Rattle.std.specs.Prelude.{◌≡◌, ℕ, List, [], ◌∷◌, Option, Some, None, fold, refl}
use Rattle.std.proofs.Common.{inl}
use Rattle.ds_base.specs.Ordered.{Ascends}
use Rattle.ds_cell.specs.Ask.{key_of, content_at}
use Rattle.ds_cell.specs.Change.{made}
use Rattle.ds_cell.specs.Content.{Content, AllAbove, Rises, no_content, stamp_of}
use Rattle.ds_cell.specs.Seen.{last_of}
use Rattle.ds_cell.specs.Store.{Store, StoreTxn, Mode, Live, FailedSince, Unknown, OverWith, Fate, Pending, Committed, Aborted}
use Rattle.ds_rule.specs.declared.record.RecordStatus.{RecordStatus}
use Rattle.ds_rule.specs.declared.record.RecordStatus.TheVariants as Status
use Rattle.ds_rule.specs.declared.record.TxnRecord.{TxnRecord}
use Rattle.ds_rule.specs.Keeping.{Keeps}
use Rattle.ds_rule.specs.Records.{record_number}
use Rattle.ds_rule.specs.StandsFor.{AllUpTo, IsIntentOf, status_for}
use Rattle.ds_rule.specs.World.{World, Late, cell_of}
use Rattle.ds_turn.specs.KeyIs.{KeyIs}

-- ---- the record

-- while its batches are answered, the record is pending, or aborted where the store's transaction is
abbrev pub FitsLive : Fate → RecordStatus → Type 0
FitsLive Pending s = s ≡ Status.Pending
FitsLive Committed s = ⊥
FitsLive Aborted s = s ≡ Status.Aborted

abbrev pub IsUncommitted : RecordStatus → Type 0
IsUncommitted Status.Pending = Unit {0}
IsUncommitted Status.Committed = ⊥
IsUncommitted Status.Aborted = Unit {0}
IsUncommitted (Status.Staging fs) = Unit {0}

-- after a batch failed it isn't committed; an end that was lost may have aborted it before the store knows
abbrev pub FitsFailed : Fate → RecordStatus → Type 0
FitsFailed Pending s = IsUncommitted s
FitsFailed Committed s = ⊥
FitsFailed Aborted s = s ≡ Status.Aborted

-- what the record's status may be; where nobody knows what became of the transaction, anything
abbrev pub StatusFits : Mode → Fate → RecordStatus → Type 0
StatusFits Live f s = FitsLive f s
StatusFits (FailedSince n) f s = FitsFailed f s
StatusFits (Unknown ws) f s = Unit {0}
StatusFits (OverWith t) f s = s ≡ status_for f

-- the transaction's record: it has its number and its stamp, and is the last, which an abort ends
pub record OpenRecord (t : StoreTxn) (rs : List TxnRecord) : Type 0 where
  pub its : TxnRecord
  pub last : last_of rs ≡ Some its
  pub number : record_number its ≡ t.asker.number
  pub stamp : its.stamp.0 ≡ t.asker.stamp
  pub status : StatusFits t.mode t.fate its.status

abbrev pub HasOpenRecord : Option StoreTxn → List TxnRecord → Type 0
HasOpenRecord None rs = Unit {0}
HasOpenRecord (Some t) rs = OpenRecord t rs

-- the open transaction has its record; records have rising numbers from 1 on, none of them yet to come
pub record RecordsFit (o : Option StoreTxn) (begun : ℕ) (rs : List TxnRecord) : Type 0 where
  pub recorded : HasOpenRecord o rs
  pub numbers : Rises record_number rs
  pub named : AllAbove record_number 0 rs
  pub given : AllUpTo record_number begun rs

-- ---- the keys and the copies

-- c in the world and d in the store have the same versions, where foreign writes may still wait in the world
pub record SameVersions (stamp : ℕ) (c d : Content) : Type 0 where
  pub rises : Rises stamp_of c.versions
  pub versions : d.versions ≡ fold made c.versions c.waiting
  pub none_waits : d.waiting ≡ []
  pub waits : c.history ≡ [] → c.waiting ≡ []
  pub above : AllAbove stamp_of stamp c.waiting

-- while its batches are answered, the transaction's writes are the same too. After one failed, or where nobody knows whether
-- it acted, the world may hold more or fewer of them: they are dropped, or decided once more
abbrev pub KeyAgrees : Mode → ℕ → Content → Content → Type 0
KeyAgrees Live s c d = KeyIs s c d
KeyAgrees (FailedSince n) s c d = SameVersions s c d
KeyAgrees (Unknown ws) s c d = SameVersions s c d
KeyAgrees (OverWith t) s c d = KeyIs s c d

abbrev pub KeyOf : Option StoreTxn → Content → Content → Type 0
KeyOf None c d = KeyIs 0 c d
KeyOf (Some t) c d = KeyAgrees t.mode t.asker.stamp c d

-- and an intent is the open transaction's
pub record KeyStands (o : Option StoreTxn) (c d : Content) : Type 0 where
  pub same : KeyOf o c d
  pub intent : IsIntentOf o c
  pub intent_too : IsIntentOf o d

-- no copy is under way
abbrev pub CopiesStand : List Late → Type 0
CopiesStand ls = ls ≡ []

-- ---- the world

pub record Means (w : World) (p : Store) : Type 0 where
  pub keeps : Keeps w
  pub rising : Ascends key_of p.cells
  pub keys : (k : List ℕ) → KeyStands p.txn (cell_of w k) (content_at k p.cells)
  pub records : RecordsFit p.txn p.begun w.records
  pub copies : CopiesStand w.copies

-- ---- examples

abbrev at_seven : StoreTxn
at_seven = record { asker = record { number = 3; stamp = 7; epoch = 0; last = 2 }; fate = Pending; mode = FailedSince 2; batches = 2 }

abbrev numbered : ℕ → RecordStatus → TxnRecord
numbered n s = record { txn = record { 0 = n }; stamp = record { 0 = 7 }; epoch = 0; status = s }

-- a key of which nothing is known
nothing_stands : KeyStands None no_content no_content
nothing_stands = record {
  same = record {
    rises = tt;
    versions = refl;
    none_waits = refl;
    history = refl;
    whose = inl refl;
    waits = λ h. refl;
    above = tt;
  };
  intent = refl;
  intent_too = refl;
}

-- a write of a failed batch, in the world alone; not while batches are answered
abbrev with_write : Content
with_write = record no_content { owner = 3; history = record { seq = record { 0 = 1 }; value = None } ∷ [] }

a_write_of_a_failed_batch : KeyOf (Some at_seven) with_write no_content
a_write_of_a_failed_batch = record { rises = tt; versions = refl; none_waits = refl; waits = λ h. refl; above = tt }

not_while_it_lives : KeyOf (Some (record at_seven { mode = Live })) with_write no_content → ⊥
not_while_it_lives h = let none = h.history in cc

-- after a failed batch the record may be aborted already, but not committed
perhaps_aborted : OpenRecord at_seven (numbered 1 Status.Committed ∷ numbered 3 Status.Aborted ∷ [])
perhaps_aborted = record { its = numbered 3 Status.Aborted; last = refl; number = refl; stamp = refl; status = tt }

not_committed : StatusFits (FailedSince 2) Pending Status.Committed → ⊥
not_committed h = h

-- while batches are answered it isn't aborted unless the store knows
not_aborted_unknown : StatusFits Live Pending Status.Aborted → ⊥
not_aborted_unknown h = cc

-- no intent where no transaction is open
no_intent : (c d : Content) → KeyStands None (record no_content { history = record { seq = record { 0 = 1 }; value = None } ∷ [] }) d → ⊥
no_intent c d h = let none = h.intent in cc
