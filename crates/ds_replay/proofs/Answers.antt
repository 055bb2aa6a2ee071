-- What an answer leaves of the store's transaction, and of how many have begun.
use Rattle.std.proofs.Common.{◌≡◌, Option, Some, None, refl, ap, ◌∙◌}
use Rattle.std.specs.Option.{option_map}
use Rattle.ds_kind.specs.declared.batch.Batch.{Batch}
use Rattle.ds_cell.specs.Store.{Store, StoreTxn}
use Rattle.ds_rule.specs.declared.answer.Outcome.{Outcome}
use Rattle.ds_rule.specs.Asking.{asking}
use Rattle.ds_rule.specs.Plain.{Answered, asker_in, counted_store, doubtful, failed_store, in_doubt}
use Rattle.ds_rule.specs.StandsFor.{open_stamp}
use Rattle.ds_mean.proofs.Follows.{follows-counted, follows-failed, follows-stamp}

-- ---- the transaction's stamp stays

counted-stamp : (b : Batch) (o : Outcome) (p : Store) → open_stamp (counted_store b o p).txn ≡ open_stamp p.txn
counted-stamp b o p = follows-stamp p.txn (counted_store b o p).txn (follows-counted b.at b o p.txn)

failed-stamp : (b : Batch) (o : Outcome) (p : Store) → open_stamp (failed_store b o p).txn ≡ open_stamp p.txn
failed-stamp b o p = follows-stamp p.txn (failed_store b o p).txn (follows-failed b.at b o p.txn)

doubt-stamp : (b : Batch) (o : Outcome) (p : Store) (t : Option StoreTxn) → open_stamp (option_map (in_doubt (doubtful (asking (asker_in p) b) p.cells)) t) ≡ open_stamp t
doubt-stamp b o p None = refl
doubt-stamp b o p (Some t) = refl

pub answered-stamp : (b : Batch) (o : Outcome) (p next : Store) → Answered p b o next → open_stamp next.txn ≡ open_stamp p.txn
answered-stamp b (Outcome.Ambiguous n) p next a =
    ap (λ z. open_stamp z.txn) a.next ∙ doubt-stamp b (Outcome.Ambiguous n) p (counted_store b (Outcome.Ambiguous n) p).txn ∙ counted-stamp b (Outcome.Ambiguous n) p
answered-stamp b Outcome.OutOfMemory p next a = absurd a
answered-stamp b (Outcome.Ok rs) p next a = ap (λ z. open_stamp z.txn) a.next ∙ counted-stamp b (Outcome.Ok rs) p
answered-stamp b (Outcome.Illegal i) p next a = ap (λ z. open_stamp z.txn) a ∙ counted-stamp b (Outcome.Illegal i) p
answered-stamp b (Outcome.MustRollBack n) p next a = ap (λ z. open_stamp z.txn) a ∙ counted-stamp b (Outcome.MustRollBack n) p
answered-stamp b (Outcome.TxnOver t) p next a = ap (λ z. open_stamp z.txn) a ∙ counted-stamp b (Outcome.TxnOver t) p
answered-stamp b (Outcome.OpRequiresTxn d) p next a = ap (λ z. open_stamp z.txn) a ∙ failed-stamp b (Outcome.OpRequiresTxn d) p
answered-stamp b (Outcome.NotOnePhase d) p next a = ap (λ z. open_stamp z.txn) a ∙ failed-stamp b (Outcome.NotOnePhase d) p
answered-stamp b (Outcome.ConditionFailed i v) p next a = ap (λ z. open_stamp z.txn) a ∙ failed-stamp b (Outcome.ConditionFailed i v) p
answered-stamp b (Outcome.WriteTooOld i k t) p next a = ap (λ z. open_stamp z.txn) a ∙ failed-stamp b (Outcome.WriteTooOld i k t) p
answered-stamp b (Outcome.NotInteger i) p next a = ap (λ z. open_stamp z.txn) a ∙ failed-stamp b (Outcome.NotInteger i) p
answered-stamp b (Outcome.Overflow i) p next a = ap (λ z. open_stamp z.txn) a ∙ failed-stamp b (Outcome.Overflow i) p
answered-stamp b Outcome.TxnAborted p next a = ap (λ z. open_stamp z.txn) a ∙ failed-stamp b Outcome.TxnAborted p
answered-stamp b (Outcome.RetryExhausted r l) p next a = ap (λ z. open_stamp z.txn) a ∙ failed-stamp b (Outcome.RetryExhausted r l) p

-- ---- how many have begun

pub answered-begun : (b : Batch) (o : Outcome) (p next : Store) → Answered p b o next → next.begun ≡ p.begun
answered-begun b (Outcome.Ambiguous n) p next a = ap (λ z. z.begun) a.next
answered-begun b Outcome.OutOfMemory p next a = absurd a
answered-begun b (Outcome.Ok rs) p next a = ap (λ z. z.begun) a.next
answered-begun b (Outcome.Illegal i) p next a = ap (λ z. z.begun) a
answered-begun b (Outcome.MustRollBack n) p next a = ap (λ z. z.begun) a
answered-begun b (Outcome.TxnOver t) p next a = ap (λ z. z.begun) a
answered-begun b (Outcome.OpRequiresTxn d) p next a = ap (λ z. z.begun) a
answered-begun b (Outcome.NotOnePhase d) p next a = ap (λ z. z.begun) a
answered-begun b (Outcome.ConditionFailed i v) p next a = ap (λ z. z.begun) a
answered-begun b (Outcome.WriteTooOld i k t) p next a = ap (λ z. z.begun) a
answered-begun b (Outcome.NotInteger i) p next a = ap (λ z. z.begun) a
answered-begun b (Outcome.Overflow i) p next a = ap (λ z. z.begun) a
answered-begun b Outcome.TxnAborted p next a = ap (λ z. z.begun) a
answered-begun b (Outcome.RetryExhausted r l) p next a = ap (λ z. z.begun) a
