-- The client's transaction follows the store's.
use Rattle.std.proofs.Common.{◌≡◌, ℕ, ◌+◌, Bool, true, false, cond, List, [], ◌∷◌, Option, Some, None, refl, sym, ap, ◌∙◌, subst}
use Rattle.std.specs.Option.{option_map}
use Rattle.ds_base.specs.declared.value.Stamp.{Stamp}
use Rattle.ds_kind.specs.declared.batch.Batch.{Batch}
use Rattle.ds_kind.specs.declared.request.Request.{Request}
use Rattle.ds_cell.specs.Store.{Asker, Store, StoreTxn, Mode, Live, FailedSince, Unknown, OverWith}
use Rattle.ds_rule.specs.declared.answer.Outcome.{Outcome}
use Rattle.ds_rule.specs.declared.event.Event.{Event}
use Rattle.ds_rule.specs.Admitting.{refused_by, refused_in}
use Rattle.ds_rule.specs.Asking.{asking}
use Rattle.ds_rule.specs.Journal.{Moved, Did}
use Rattle.ds_rule.specs.Plain.{Answered, IsInDoubt, abort_txn, after_event, asker_after, count_numbered, counted_txn, doubtful, failed_mode, failed_store, failed_txn, if_of_txn, in_doubt, one_batch_more, uses_numbers}
use Rattle.ds_rule.specs.Plain as Plain
use Rattle.ds_coord.specs.declared.txn.Txn.{Txn}
use Rattle.ds_coord.specs.declared.txn.TxnState.{TxnState}
use Rattle.ds_coord.specs.Agrees.{Agrees, AgreesIn, BatchAgrees, BeginAgrees, EventsAgree, RefusalsAgree, state_of}
use Rattle.ds_coord.specs.Client.{after_batch, answered, asker_in, asker_of, failed_since, noted_state, numbered_by, refusal_by, refusal_in, with_numbers}

pub begin_agrees : BeginAgrees
begin_agrees n s f = record { asker = refl; state = refl; batches = refl }

-- ---- what is refused, and who asks

same-refusal : (m : Mode) (rs : List Request) → refusal_in (state_of m) rs ≡ refused_in m rs
same-refusal Live rs = refl
same-refusal (FailedSince n) rs = refl
same-refusal (Unknown ws) rs = refl
same-refusal (OverWith s) rs = refl

refusals-alike : (at : Option Stamp) (rs : List Request) (c : Option Txn) (o : Option StoreTxn) → AgreesIn c o → refusal_by at rs c ≡ refused_by at rs o
refusals-alike (Some s) rs c o a = refl
refusals-alike None rs None None a = refl
refusals-alike None rs None (Some t) a = absurd a
refusals-alike None rs (Some c) None a = absurd a
refusals-alike None rs (Some c) (Some t) a = ap (λ s. refusal_in s rs) a.state ∙ same-refusal t.mode rs

askers-alike : (c : Option Txn) (o : Option StoreTxn) → AgreesIn c o → asker_in c ≡ option_map (λ t. t.asker) o
askers-alike None None a = refl
askers-alike None (Some t) a = absurd a
askers-alike (Some c) None a = absurd a
askers-alike (Some c) (Some t) a = ap Some a.asker

pub refusals_agree : RefusalsAgree
refusals_agree at rs c p a = record { refusal = refusals-alike at rs c p.txn a; asker = askers-alike c p.txn a }

-- ---- an answer to a batch of the transaction

asks-after : (u : Bool) (rs : List Request) (c : Txn) (t : Asker) → asker_of c ≡ t → asker_of (cond u (with_numbers rs c) c) ≡ cond u (record t { last = t.last + count_numbered rs }) t
asks-after true rs c t e = ap (λ (z : Asker). record z { last = z.last + count_numbered rs }) e
asks-after false rs c t e = e

numbers-state : (u : Bool) (rs : List Request) (c : Txn) → (cond u (with_numbers rs c) c).state ≡ c.state
numbers-state true rs c = refl
numbers-state false rs c = refl

numbers-batches : (u : Bool) (rs : List Request) (c : Txn) → (cond u (with_numbers rs c) c).batches ≡ c.batches
numbers-batches true rs c = refl
numbers-batches false rs c = refl

-- the batch's numbers are given on both sides
numbered-agrees : (b : Batch) (o : Outcome) (c : Txn) (t : StoreTxn) → Agrees c t → Agrees (numbered_by b o c) (record t { asker = asker_after b o t.asker })
numbered-agrees b o c t a = record {
  asker = asks-after (uses_numbers o) b.requests c t.asker a.asker;
  state = numbers-state (uses_numbers o) b.requests c ∙ a.state;
  batches = numbers-batches (uses_numbers o) b.requests c ∙ a.batches;
}

-- and the mode that comes of it is the state that comes of it
answered-agrees :
    (b : Batch) (o : Outcome) (c : Txn) (t : StoreTxn) (m : Mode) → Agrees c t → noted_state (one_batch_more t.batches) o None (state_of t.mode) ≡ state_of m
    → Agrees (answered b o None c) (record (counted_txn b o t) { mode = m })
answered-agrees b o c t m a e =
    let n = numbered-agrees b o c t a in
    record {
      asker = n.asker;
      state = ap (λ k. noted_state (one_batch_more k) o None (numbered_by b o c).state) n.batches ∙ ap (noted_state (one_batch_more t.batches) o None) n.state ∙ e;
      batches = ap one_batch_more n.batches;
    }

same-failed : (n : ℕ) (m : Mode) → failed_since n (state_of m) ≡ state_of (failed_mode n m)
same-failed n Live = refl
same-failed n (FailedSince k) = refl
same-failed n (Unknown ws) = refl
same-failed n (OverWith s) = refl

-- ---- whatever is open

lifted : (at : Option Stamp) (f : Txn → Txn) (g : StoreTxn → StoreTxn) (c : Option Txn) (o : Option StoreTxn) → ((d : Txn) (t : StoreTxn) → Agrees d t → Agrees (f d) (g t)) → AgreesIn c o → AgreesIn (if_of_txn at f c) (if_of_txn at g o)
lifted (Some s) f g c o all a = a
lifted None f g None None all a = tt
lifted None f g None (Some t) all a = absurd a
lifted None f g (Some c) None all a = absurd a
lifted None f g (Some c) (Some t) all a = all c t a

twice : (at : Option Stamp) (g h : StoreTxn → StoreTxn) (o : Option StoreTxn) → if_of_txn at h (if_of_txn at g o) ≡ if_of_txn at (λ t. h (g t)) o
twice (Some s) g h o = refl
twice None g h None = refl
twice None g h (Some t) = refl

-- an answer that leaves the mode
counted : (p : Store) (b : Batch) (o : Outcome) (c : Option Txn) → ((n : ℕ) (s : TxnState) → noted_state n o None s ≡ s) → AgreesIn c p.txn → AgreesIn (after_batch b o None c) (if_of_txn b.at (counted_txn b o) p.txn)
counted p b o c same a = lifted b.at (answered b o None) (counted_txn b o) c p.txn (λ d t x. answered-agrees b o d t t.mode x (same (one_batch_more t.batches) (state_of t.mode))) a

-- a failure
failed : (p : Store) (b : Batch) (o : Outcome) (next : Store) (c : Option Txn) → ((n : ℕ) (s : TxnState) → noted_state n o None s ≡ failed_since n s) → next ≡ failed_store b o p → AgreesIn c p.txn → AgreesIn (after_batch b o None c) next.txn
failed p b o next c fails is a =
    subst (AgreesIn (after_batch b o None c)) (sym (ap (λ (z : Store). z.txn) is ∙ twice b.at (counted_txn b o) failed_txn p.txn))
    (lifted b.at (answered b o None) (λ t. failed_txn (counted_txn b o t)) c p.txn
    (λ d t x. answered-agrees b o d t (failed_mode (one_batch_more t.batches) t.mode) x (fails (one_batch_more t.batches) (state_of t.mode) ∙ same-failed (one_batch_more t.batches) t.mode)) a)

of-txn : (at : Option Stamp) (g : StoreTxn → StoreTxn) (o : Option StoreTxn) → at ≡ None → option_map g o ≡ if_of_txn at g o
of-txn (Some s) g o none = cc
of-txn None g o none = refl

doubted : (p : Store) (b : Batch) (lost : ℕ) (next : Store) (c : Option Txn) → IsInDoubt p b (Outcome.Ambiguous lost) next → AgreesIn c p.txn → AgreesIn (after_batch b (Outcome.Ambiguous lost) None c) next.txn
doubted p b lost next c d a =
    let o : Outcome = Outcome.Ambiguous lost in
    let ws = doubtful (asking (Plain.asker_in p) b) p.cells in
    let is : next.txn ≡ if_of_txn b.at (λ t. in_doubt ws (counted_txn b o t)) p.txn =
    ap (λ (z : Store). z.txn) d.next ∙ of-txn b.at (in_doubt ws) (if_of_txn b.at (counted_txn b o) p.txn) d.of_txn ∙ twice b.at (counted_txn b o) (in_doubt ws) p.txn in
    subst (AgreesIn (after_batch b o None c)) (sym is)
    (lifted b.at (answered b o None) (λ t. in_doubt ws (counted_txn b o t)) c p.txn (λ d t x. answered-agrees b o d t (Unknown ws) x refl) a)

abbrev Follows : Batch → Outcome → Option Txn → Store → Type 0
Follows b o c next = AgreesIn (after_batch b o None c) next.txn

counts : (p : Store) (b : Batch) (o : Outcome) (next : Store) (c : Option Txn) → ((n : ℕ) (s : TxnState) → noted_state n o None s ≡ s) → next.txn ≡ if_of_txn b.at (counted_txn b o) p.txn → AgreesIn c p.txn → Follows b o c next
counts p b o next c same is a = subst (AgreesIn (after_batch b o None c)) (sym is) (counted p b o c same a)

pub batch_agrees : BatchAgrees
batch_agrees p b (Outcome.Ok replies) next c h a = counts p b (Outcome.Ok replies) next c (λ n s. refl) (ap (λ (z : Store). z.txn) h.next) a
batch_agrees p b (Outcome.Illegal i) next c h a = counts p b (Outcome.Illegal i) next c (λ n s. refl) (ap (λ (z : Store). z.txn) h) a
batch_agrees p b (Outcome.MustRollBack since) next c h a = counts p b (Outcome.MustRollBack since) next c (λ n s. refl) (ap (λ (z : Store). z.txn) h) a
batch_agrees p b (Outcome.TxnOver status) next c h a = counts p b (Outcome.TxnOver status) next c (λ n s. refl) (ap (λ (z : Store). z.txn) h) a
batch_agrees p b (Outcome.OpRequiresTxn desc) next c h a = failed p b (Outcome.OpRequiresTxn desc) next c (λ n s. refl) h a
batch_agrees p b (Outcome.NotOnePhase desc) next c h a = failed p b (Outcome.NotOnePhase desc) next c (λ n s. refl) h a
batch_agrees p b (Outcome.ConditionFailed i v) next c h a = failed p b (Outcome.ConditionFailed i v) next c (λ n s. refl) h a
batch_agrees p b (Outcome.WriteTooOld i k t) next c h a = failed p b (Outcome.WriteTooOld i k t) next c (λ n s. refl) h a
batch_agrees p b (Outcome.NotInteger i) next c h a = failed p b (Outcome.NotInteger i) next c (λ n s. refl) h a
batch_agrees p b (Outcome.Overflow i) next c h a = failed p b (Outcome.Overflow i) next c (λ n s. refl) h a
batch_agrees p b Outcome.TxnAborted next c h a = failed p b Outcome.TxnAborted next c (λ n s. refl) h a
batch_agrees p b (Outcome.Ambiguous lost) next c h a = doubted p b lost next c h a
batch_agrees p b (Outcome.RetryExhausted refused lost) next c h a = failed p b (Outcome.RetryExhausted refused lost) next c (λ n s. refl) h a
batch_agrees p b Outcome.OutOfMemory next c h a = absurd h

-- ---- what happens beside it

abort-agrees : (c : Option Txn) (o : Option StoreTxn) → AgreesIn c o → AgreesIn c (option_map abort_txn o)
abort-agrees None None a = tt
abort-agrees None (Some t) a = absurd a
abort-agrees (Some c) None a = absurd a
abort-agrees (Some c) (Some t) a = record { asker = a.asker; state = a.state; batches = a.batches }

event-agrees : (e : Event) (p : Store) (c : Option Txn) → AgreesIn c p.txn → AgreesIn c (after_event e p).txn
event-agrees (Event.Write k s v) p c a = a
event-agrees Event.Abort p c a = abort-agrees c p.txn a
event-agrees (Event.Split k) p c a = a
event-agrees (Event.Merge k) p c a = a
event-agrees (Event.Lease k n) p c a = a
event-agrees (Event.Move k ns) p c a = a
event-agrees (Event.Stale k b) p c a = a
event-agrees (Event.Arrive n) p c a = a
event-agrees (Event.LoseRequest n) p c a = a
event-agrees (Event.LoseReply n) p c a = a
event-agrees (Event.Copy n) p c a = a
event-agrees (Event.Restart t) p c a = a

pub events_agree : EventsAgree
events_agree [] p c a = a
events_agree (Moved e ∷ hs) p c a = events_agree hs (after_event e p) c (event-agrees e p c a)
events_agree (Did s ∷ hs) p c a = events_agree hs p c a
