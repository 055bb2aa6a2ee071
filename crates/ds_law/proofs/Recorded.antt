-- The record of the open transaction, which is the last.
use Rattle.std.proofs.Common.{◌≡◌, ℕ, ◌<◌, true, false, cond, ◌==◌, List, [], ◌∷◌, Option, Some, None, inl, inr, refl, sym, ap, ◌∙◌, subst, eq-eqb, ne_eqb, arith}
use Rattle.std.specs.List.{find}
use Rattle.ds_base.specs.declared.value.TxnNo.{TxnNo}
use Rattle.ds_base.proofs.SmallFacts.{none_some}
use Rattle.ds_kind.specs.Parts.{requests_of}
use Rattle.ds_kind.specs.declared.batch.Piece.{Piece}
use Rattle.ds_kind.specs.declared.reply.Failure.TheVariants as Failure
use Rattle.ds_cell.specs.Content.{AllAbove, Rises}
use Rattle.ds_cell.specs.Seen.{last_of}
use Rattle.ds_cell.specs.Store.{StoreTxn, Mode, Live, FailedSince, Unknown, OverWith, Fate, Pending, Committed, Aborted}
use Rattle.ds_rule.specs.declared.record.TxnRecord.{TxnRecord}
use Rattle.ds_rule.specs.Asking.{txn_number}
use Rattle.ds_rule.specs.declared.record.RecordStatus.TheVariants as Status
use Rattle.ds_rule.specs.Deliver.{is_rollback, status_stops, stops_as}
use Rattle.ds_rule.specs.Plain.{is_pending}
use Rattle.ds_rule.specs.Records.{record_number}
use Rattle.ds_rule.specs.StandsFor.{HasRecord, HasRecordOf, IsKnown, IsWho, Knows, OfOpen, record_for, status_for}
use Rattle.ds_rule.proofs.Lasts.{last-cases}

above-last : (n : ℕ) (ts : List TxnRecord) (x : TxnRecord) → AllAbove record_number n ts → last_of ts ≡ Some x → n < record_number x
above-last n [] x all h = cc
above-last n (t ∷ ts) x all h = elim (last-cases t ts x h) [
  | inl one ↦ subst (λ z. n < record_number z) one.1 all.0
  | inr rest ↦ above-last n ts x all.1 rest
]

other : (m n : ℕ) → m < n → (m == n) ≡ false
other m n h = ne_eqb m n (λ e. omega (arith, e, h))

-- where numbers rise, the one with the last one's number is the last
pub find-last : (ts : List TxnRecord) (x : TxnRecord) → Rises record_number ts → last_of ts ≡ Some x → find (λ t. t.txn.0 == record_number x) ts ≡ Some x
find-last [] x r h = cc
find-last (t ∷ ts) x r h = elim (last-cases t ts x h) [
  | inl one ↦ ap (λ b. cond b (Some t) (find (λ t. t.txn.0 == record_number x) ts)) (eq-eqb (record_number t) (record_number x) (ap record_number one.1)) ∙ ap Some one.1
  | inr rest ↦ ap (λ b. cond b (Some t) (find (λ t. t.txn.0 == record_number x) ts)) (other (record_number t) (record_number x) (above-last (record_number t) ts x r.0 rest)) ∙ find-last ts x r.1 rest
]

-- the transaction, if there is one, is pending
abbrev pub Pends : Option TxnNo → Option StoreTxn → Type 0
Pends n o = OfOpen (λ n t. is_pending t.fate ≡ true) n o

pub known-last : (m : Mode) (t : StoreTxn) (rs : List TxnRecord) → IsKnown m → HasRecord m t rs → last_of rs ≡ Some (record_for t)
known-last Live t rs k h = h
known-last (FailedSince n) t rs k h = h
known-last (Unknown ws) t rs k h = absurd k
known-last (OverWith s) t rs k h = h

free-fate : (t : StoreTxn) (f : Fate) (p : Piece) → t.fate ≡ f → is_rollback (requests_of p.items) ≡ false → status_stops (Some (record_for t)) p ≡ None → is_pending f ≡ true
free-fate t Pending p e other h = refl
free-fate t Committed p e other h = absurd (none_some Failure.Committed (sym h ∙ ap (λ f. stops_as (status_for f) (is_rollback (requests_of p.items))) e))
free-fate t Aborted p e other h = absurd (none_some Failure.Aborted (sym h ∙ ap (λ f. stops_as (status_for f) (is_rollback (requests_of p.items))) e ∙ ap (stops_as Status.Aborted) other))

-- a record that takes a piece that is no rollback is pending
pub pends : (n : Option TxnNo) (o : Option StoreTxn) (rs : List TxnRecord) (p : Piece) → IsWho n o → Knows n o → HasRecordOf o rs → Rises record_number rs → is_rollback (requests_of p.items) ≡ false → status_stops (find (λ t. t.txn.0 == txn_number n) rs) p ≡ None → Pends n o
pends None o rs p who known has rise other free = tt
pends (Some n) None rs p who known has rise other free = who
pends (Some n) (Some t) rs p who known has rise other free =
    free-fate t t.fate p refl other
    (sym (ap (λ o. status_stops o p) (ap (λ k. find (λ u. u.txn.0 == k) rs) who ∙ find-last rs (record_for t) rise (known-last t.mode t rs known has))) ∙ free)
