-- What one call of a sender did, as its clauses say it.
use Rattle.std.proofs.Common.{◌≡◌, ℕ, zero, suc, ◌<◌, Bool, List, [], Option, inl, refl, sym, subst, arith}
use Rattle.ds_base.specs.Order.{Extent}
use Rattle.ds_cache.specs.Entries.{Entry}
use Rattle.ds_kind.specs.declared.batch.Head.{Head}
use Rattle.ds_kind.specs.declared.batch.Part.{Part}
use Rattle.ds_kind.specs.declared.reply.Failure.{Failure}
use Rattle.ds_retry.specs.Counted.{Counts, first_counts}
use Rattle.ds_retry.specs.declared.outcome.PartOutcome.{PartOutcome}
use Rattle.ds_retry.specs.declared.outcome.PartOutcome.TheVariants as Ends
use Rattle.ds_rule.specs.declared.answer.Outcome.{Outcome}
use Rattle.ds_rule.specs.Asking.{Asking}
use Rattle.ds_rule.specs.Clauses.{Stands}
use Rattle.ds_rule.specs.Whole.{must_be_whole, whole_of}
use Rattle.ds_flight.specs.Causes.{GoesOn}
use Rattle.ds_flight.specs.Searches.{course}
use Rattle.ds_send.specs.Batched.{ArePartsOf, BatchBegun, BatchEnded, PartsBegan, PartsFlown}
use Rattle.ds_send.specs.Calls.{Broke, Flew, FlewOrBroke}
use Rattle.ds_send.specs.Moving.{IsMovable}
use Rattle.ds_send.specs.Settled.{exhausted_as, failed_as, settled_as}
use Rattle.ds_send.proofs.BatchRuns.{batch-none}
use Rattle.ds_send.proofs.Moved.{are-parts}

-- ---- the parts were flown

parts-of-head : (q : Asking) (parts : List Part) (whole : Bool) (h : Head) → IsMovable q parts whole → h ≡ q.head → ArePartsOf q h parts
parts-of-head q parts whole h m is = subst (λ z. ArePartsOf q z parts) (sym is) (are-parts q parts whole m)

pub flew-so :
    (budget : ℕ) (q : Asking) (parts : List Part) (w : Option Extent) (h : Head) (a b : Stands) (es fs : List Entry) (c d : Counts) (x : PartOutcome) (risky : ℕ) (o : Outcome)
    → IsMovable q parts (must_be_whole q) → w ≡ whole_of q → h ≡ q.head → c ≡ first_counts budget → risky ≡ d.at_risk
    → ((n : Counts) → n.at_risk ≡ risky → o ≡ settled_as n x) → PartsFlown h w parts (course a es c) (course b fs d) x → Flew budget q a b es fs o
flew-so budget q parts w h a b es fs c d x risky o m is head first at settles flown = record {
  came = x;
  counts = d;
  answer = settles d (sym at);
  ended = λ known all.
      let so = flown q known (parts-of-head q parts (must_be_whole q) h m head) all in (
        so.0,
        subst (λ z. BatchEnded q (whole_of q) known (course a es z) (course b fs d) so.0 x) first
            (subst (λ z. BatchEnded q z known (course a es c) (course b fs d) so.0 x) is so.1),
      );
}

-- ---- memory was wanting

first-goes : (budget : ℕ) → 0 < budget → GoesOn (first_counts budget)
first-goes budget some = omega (arith, some)

-- before anything was sent
pub broke-none : (budget : ℕ) (q : Asking) (a : Stands) (es : List Entry) → 0 < budget → Broke budget q a a es es
broke-none budget q a es some = record {
  counts = first_counts budget;
  begun = λ known all. (
    [],
    record {
      ran = batch-none q (whole_of q) [] known (course a es (first_counts budget));
      picks = inl refl;
      unended = tt;
      goes_on = first-goes budget some;
    },
  );
}

-- while parts were flown
pub broke-so :
    (budget : ℕ) (q : Asking) (parts : List Part) (w : Option Extent) (h : Head) (a b : Stands) (es fs : List Entry) (c d : Counts)
    → IsMovable q parts (must_be_whole q) → w ≡ whole_of q → h ≡ q.head → c ≡ first_counts budget
    → PartsBegan h w parts (course a es c) (course b fs d) → Broke budget q a b es fs
broke-so budget q parts w h a b es fs c d m is head first began = record {
  counts = d;
  begun = λ known all.
      let so = began q known (parts-of-head q parts (must_be_whole q) h m head) all in (
        so.0,
        subst (λ z. BatchBegun q (whole_of q) known (course a es z) (course b fs d) so.0) first
            (subst (λ z. BatchBegun q z known (course a es c) (course b fs d) so.0) is so.1),
      );
}

-- ---- by the answer

-- no flight is answered want of memory

failed-given : (risky : ℕ) (f : Failure) → failed_as risky f ≡ Outcome.OutOfMemory → ⊥
failed-given risky (Failure.Condition i v) h = cc
failed-given risky (Failure.TooOld i k s) h = cc
failed-given risky (Failure.NotInteger i) h = cc
failed-given risky (Failure.Overflow i) h = cc
failed-given risky Failure.Aborted h = cc
failed-given risky Failure.Committed h = cc

exhausted-given : (risky refused lost : ℕ) → exhausted_as risky refused lost ≡ Outcome.OutOfMemory → ⊥
exhausted-given zero refused lost h = cc
exhausted-given (suc n) refused lost h = cc

settled-given : (c : Counts) (x : PartOutcome) → settled_as c x ≡ Outcome.OutOfMemory → ⊥
settled-given c (Ends.Done replies left) h = cc
settled-given c (Ends.NotWhole desc) h = cc
settled-given c (Ends.Failed f) h = failed-given c.at_risk f h
settled-given c (Ends.Ambiguous lost) h = cc
settled-given c (Ends.Exhausted refused lost) h = exhausted-given c.at_risk refused lost h

-- what was flown is what its answer says, whichever it is
pub by-answer : (budget : ℕ) (q : Asking) (a b : Stands) (es fs : List Entry) (o : Outcome) → Flew budget q a b es fs o → FlewOrBroke budget q a b es fs o
by-answer budget q a b es fs (Outcome.Ok replies) f = f
by-answer budget q a b es fs (Outcome.Illegal i) f = f
by-answer budget q a b es fs (Outcome.MustRollBack since) f = f
by-answer budget q a b es fs (Outcome.TxnOver status) f = f
by-answer budget q a b es fs (Outcome.OpRequiresTxn desc) f = f
by-answer budget q a b es fs (Outcome.NotOnePhase desc) f = f
by-answer budget q a b es fs (Outcome.ConditionFailed i v) f = f
by-answer budget q a b es fs (Outcome.WriteTooOld i k s) f = f
by-answer budget q a b es fs (Outcome.NotInteger i) f = f
by-answer budget q a b es fs (Outcome.Overflow i) f = f
by-answer budget q a b es fs Outcome.TxnAborted f = f
by-answer budget q a b es fs (Outcome.Ambiguous lost) f = f
by-answer budget q a b es fs (Outcome.RetryExhausted refused lost) f = f
by-answer budget q a b es fs Outcome.OutOfMemory f = absurd (settled-given f.counts f.came (sym f.answer))
