-- The store's transaction after a batch of it was counted, and after it failed: the world's record fits it as before.
use Rattle.std.proofs.Common.{◌≡◌, ℕ, ◌+◌, true, false, cond, List, Option, Some, None, inl, inr, refl, sym, ◌∙◌, subst}
use Rattle.ds_base.specs.declared.value.Stamp.{Stamp}
use Rattle.ds_kind.specs.declared.batch.Batch.{Batch}
use Rattle.ds_cell.specs.Content.{Content}
use Rattle.ds_cell.specs.Store.{Asker, StoreTxn, Mode, Live, FailedSince, Unknown, OverWith, Fate, Pending, Committed, Aborted}
use Rattle.ds_rule.specs.declared.answer.Outcome.{Outcome}
use Rattle.ds_rule.specs.declared.record.RecordStatus.{RecordStatus}
use Rattle.ds_rule.specs.declared.record.TxnRecord.{TxnRecord}
use Rattle.ds_rule.specs.Asking.{Asking}
use Rattle.ds_rule.specs.Plain.{asker_after, count_numbered, counted_txn, failed_mode, failed_txn, if_of_txn, uses_numbers}
use Rattle.ds_rule.specs.StandsFor.{IsIntentOf, open_stamp}
use Rattle.ds_mean.specs.Means.{FitsFailed, FitsLive, HasOpenRecord, IsUncommitted, RecordsFit, StatusFits}
use Rattle.ds_mean.proofs.Turning.{IsOwn}

pub record FollowsTxn (t u : StoreTxn) : Type 0 where
  pub number : u.asker.number ≡ t.asker.number
  pub stamp : u.asker.stamp ≡ t.asker.stamp
  pub epoch : u.asker.epoch ≡ t.asker.epoch
  pub status : (s : RecordStatus) → StatusFits t.mode t.fate s → StatusFits u.mode u.fate s

abbrev pub Follows : Option StoreTxn → Option StoreTxn → Type 0
Follows None None = Unit {0}
Follows None (Some u) = ⊥
Follows (Some t) None = ⊥
Follows (Some t) (Some u) = FollowsTxn t u

itself : (t : StoreTxn) → FollowsTxn t t
itself t = record { number = refl; stamp = refl; epoch = refl; status = λ s h. h }

pub follows-itself : (o : Option StoreTxn) → Follows o o
follows-itself None = tt
follows-itself (Some t) = itself t

after-both : (t u v : StoreTxn) → FollowsTxn t u → FollowsTxn u v → FollowsTxn t v
after-both t u v f g = record { number = g.number ∙ f.number; stamp = g.stamp ∙ f.stamp; epoch = g.epoch ∙ f.epoch; status = λ s h. g.status s (f.status s h) }

-- ---- counted

counts-asker : {X : Type 0} (f : Asker → X) → ((a : Asker) (n : ℕ) → f (record a { last = n }) ≡ f a) → (b : Batch) (o : Outcome) (a : Asker) → f (asker_after b o a) ≡ f a
counts-asker f same b o a = elim (uses_numbers o) as (λ t. f (cond t (record a { last = a.last + count_numbered b.requests }) a) ≡ f a) [
  | true ↦ same a (a.last + count_numbered b.requests)
  | false ↦ refl
]

counted-follows : (b : Batch) (o : Outcome) (t : StoreTxn) → FollowsTxn t (counted_txn b o t)
counted-follows b o t = record {
  number = counts-asker (λ a. a.number) (λ a n. refl) b o t.asker;
  stamp = counts-asker (λ a. a.stamp) (λ a n. refl) b o t.asker;
  epoch = counts-asker (λ a. a.epoch) (λ a n. refl) b o t.asker;
  status = λ s h. h;
}

-- ---- failed

fails-live : (f : Fate) (s : RecordStatus) → FitsLive f s → FitsFailed f s
fails-live Pending s h = subst IsUncommitted (sym h) tt
fails-live Committed s h = h
fails-live Aborted s h = h

fails-fit : (n : ℕ) (m : Mode) (f : Fate) (s : RecordStatus) → StatusFits m f s → StatusFits (failed_mode n m) f s
fails-fit n Live f s h = fails-live f s h
fails-fit n (FailedSince k) f s h = h
fails-fit n (Unknown ws) f s h = h
fails-fit n (OverWith t) f s h = h

failed-follows : (t : StoreTxn) → FollowsTxn t (failed_txn t)
failed-follows t = record { number = refl; stamp = refl; epoch = refl; status = λ s h. fails-fit t.batches t.mode t.fate s h }

-- ---- only a batch of the transaction counts for it

if-follows : (at : Option Stamp) (f : StoreTxn → StoreTxn) (o : Option StoreTxn) → ((t : StoreTxn) → FollowsTxn t (f t)) → Follows o (if_of_txn at f o)
if-follows (Some s) f o all = follows-itself o
if-follows None f None all = tt
if-follows None f (Some t) all = all t

pub follows-counted : (at : Option Stamp) (b : Batch) (o : Outcome) (t : Option StoreTxn) → Follows t (if_of_txn at (counted_txn b o) t)
follows-counted at b o t = if-follows at (counted_txn b o) t (counted-follows b o)

pub follows-failed : (at : Option Stamp) (b : Batch) (o : Outcome) (t : Option StoreTxn) → Follows t (if_of_txn at failed_txn (if_of_txn at (counted_txn b o) t))
follows-failed (Some s) b o t = follows-itself t
follows-failed None b o None = tt
follows-failed None b o (Some t) = after-both t (counted_txn b o t) (failed_txn (counted_txn b o t)) (counted-follows b o t) (failed-follows (counted_txn b o t))

-- ---- what is so of the one is so of the other

pub follows-stamp : (o t : Option StoreTxn) → Follows o t → open_stamp t ≡ open_stamp o
follows-stamp None None f = refl
follows-stamp None (Some u) f = absurd f
follows-stamp (Some t) None f = absurd f
follows-stamp (Some t) (Some u) f = f.stamp

pub follows-intent : (o t : Option StoreTxn) (c : Content) → Follows o t → IsIntentOf o c → IsIntentOf t c
follows-intent None None c f h = h
follows-intent None (Some u) c f h = absurd f
follows-intent (Some t) None c f h = absurd f
follows-intent (Some t) (Some u) c f (inl none) = inl none
follows-intent (Some t) (Some u) c f (inr own) = inr (own.0 ∙ sym f.number, own.1 ∙ sym f.epoch)

follows-record : (o t : Option StoreTxn) (rs : List TxnRecord) → Follows o t → HasOpenRecord o rs → HasOpenRecord t rs
follows-record None None rs f h = tt
follows-record None (Some u) rs f h = absurd f
follows-record (Some t) None rs f h = absurd f
follows-record (Some t) (Some u) rs f h = record {
  its = h.its;
  last = h.last;
  number = h.number ∙ sym f.number;
  stamp = h.stamp ∙ sym f.stamp;
  status = f.status h.its.status h.status;
}

pub follows-records : (o t : Option StoreTxn) (begun : ℕ) (rs : List TxnRecord) → Follows o t → RecordsFit o begun rs → RecordsFit t begun rs
follows-records o t begun rs f h = record { recorded = follows-record o t rs f h.recorded; numbers = h.numbers; named = h.named; given = h.given }

pub follows-none : (o t : Option StoreTxn) → Follows o t → o ≡ None → t ≡ None
follows-none None None f h = refl
follows-none None (Some u) f h = absurd f
follows-none (Some t) u f h = cc

pub follows-own : (q : Asking) (o t : Option StoreTxn) → Follows o t → IsOwn q o → IsOwn q t
follows-own q None t f own = absurd own.2
follows-own q (Some u) None f own = absurd f
follows-own q (Some u) (Some t) f own = (own.0, own.1, (own.2.0 ∙ sym f.number, own.2.1 ∙ sym f.epoch))
