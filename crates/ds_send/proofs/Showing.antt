-- Why a batch was answered so, as its steps show it.
use Rattle.std.proofs.Common.{◌≡◌, Bool, true, false, ℕ, zero, suc, ◌+◌, ◌<◌, List, [], ◌∷◌, ◌++◌, inl, inr, sym, ap, ◌∙◌, subst, arith}
use Rattle.std.proofs.lemmas.List.{append_cancel_left}
use Rattle.ds_cache.specs.Entries.{Entry}
use Rattle.ds_desc.specs.declared.desc.RangeDesc.{RangeDesc}
use Rattle.ds_desc.specs.declared.meta.Looked.TheVariants as Looked
use Rattle.ds_kind.specs.declared.reply.Failure.{Failure}
use Rattle.ds_retry.specs.Counted.{Counts, first_counts}
use Rattle.ds_retry.specs.declared.outcome.PartOutcome.{PartOutcome}
use Rattle.ds_retry.specs.declared.outcome.PartOutcome.TheVariants as Ends
use Rattle.ds_rule.specs.declared.answer.Answer.TheVariants.{Done, Failed, Refused, Lost}
use Rattle.ds_rule.specs.declared.answer.Outcome.{Outcome}
use Rattle.ds_rule.specs.declared.journal.JournalStep.TheVariants.{Look, Send}
use Rattle.ds_rule.specs.Asking.{Asking}
use Rattle.ds_rule.specs.Cause.{lost_in, refused_in}
use Rattle.ds_rule.specs.Clauses.{Stands}
use Rattle.ds_rule.specs.Journal.{Happening, Moved, Did}
use Rattle.ds_rule.specs.Law.{IsGiven}
use Rattle.ds_rule.specs.Whole.{OfPartsIf, must_be_whole, span_if, whole_of}
use Rattle.ds_flight.specs.Causes.{GoesOn, IsExhausted, IsFailed}
use Rattle.ds_flight.specs.Counting.{counted, counted_step}
use Rattle.ds_flight.specs.Goes.{known_after}
use Rattle.ds_flight.specs.Ran.{AreKnown}
use Rattle.ds_flight.specs.Searches.{course}
use Rattle.ds_flight.proofs.Caching.{entries-first}
use Rattle.ds_send.specs.Batched.{BatchEnds, BatchLeft, BatchRan, OfParts}
use Rattle.ds_send.specs.Calls.{Flew, FlewOrBroke, IsShown, Learned, Shows, descs_in}
use Rattle.ds_send.specs.Causes.{CauseOf, HasFailed, RanOut, missed_in, risked_in}
use Rattle.ds_send.specs.Settled.{exhausted_as, failed_as, settled_as}
use Rattle.ds_send.proofs.DidSends.{counts-budget, counts-lost, counts-refused}

-- ---- counts

grouped : (a b c : ℕ) → (a + b) + c ≡ a + (b + c)
grouped a b c = omega arith

counts-risked : (c : Counts) (hs : List Happening) → (counted c hs).at_risk ≡ c.at_risk + risked_in hs
counts-risked c [] = omega arith
counts-risked c (Moved e ∷ hs) = counts-risked c hs
counts-risked c (Did (Look k d (Looked.Rows is)) ∷ hs) = let more = counts-risked c hs in omega (arith, more)
counts-risked c (Did (Look k d Looked.Lost) ∷ hs) = let more = counts-risked (counted_step c (Look k d Looked.Lost)) hs in omega (arith, more)
counts-risked c (Did (Send n p (Done rs)) ∷ hs) = let more = counts-risked c hs in omega (arith, more)
counts-risked c (Did (Send n p (Failed f)) ∷ hs) = let more = counts-risked c hs in omega (arith, more)
counts-risked c (Did (Send n p (Refused r)) ∷ hs) = let more = counts-risked (counted_step c (Send n p (Refused r))) hs in omega (arith, more)
counts-risked c (Did (Send n p Lost) ∷ hs) = counts-risked (counted_step c (Send n p Lost)) hs ∙ grouped c.at_risk _ (risked_in hs)

-- the counts of a call that began with none
record Tally (budget : ℕ) (c : Counts) (hs : List Happening) : Type 0 where
  refused_is : c.refused ≡ refused_in hs
  lost_is : c.lost ≡ lost_in hs
  risked_is : c.at_risk ≡ risked_in hs
  budget_is : c.budget ≡ budget

from-none : (m n : ℕ) → m ≡ 0 + n → m ≡ n
from-none m n h = omega (arith, h)

tally : (budget : ℕ) (c : Counts) (hs : List Happening) → c ≡ counted (first_counts budget) hs → Tally budget c hs
tally budget c hs is = record {
  refused_is = from-none c.refused (refused_in hs) (ap (λ x. x.refused) is ∙ counts-refused (first_counts budget) hs);
  lost_is = from-none c.lost (lost_in hs) (ap (λ x. x.lost) is ∙ counts-lost (first_counts budget) hs);
  risked_is = from-none c.at_risk (risked_in hs) (ap (λ x. x.at_risk) is ∙ counts-risked (first_counts budget) hs);
  budget_is = ap (λ x. x.budget) is ∙ counts-budget (first_counts budget) hs;
}

within : (budget : ℕ) (c : Counts) (hs : List Happening) → Tally budget c hs → GoesOn c → missed_in hs < budget
within budget c hs t on = let r = t.refused_is in let l = t.lost_is in let b = t.budget_is in omega (arith, r, l, b, on)

-- ---- the causes

has-failed : (budget : ℕ) (q : Asking) (c : Counts) (hs : List Happening) (f : Failure) → Tally budget c hs → IsFailed c hs f → BatchLeft q hs → HasFailed budget q hs f
has-failed budget q c hs f t e left = record {
  only = e.failed;
  within = within budget c hs t e.goes_on;
  came = record { left = left; last = record { before = e.last.before; node = e.last.node; piece = e.piece; last = e.last.last } };
}

failed-cause : (budget : ℕ) (q : Asking) (known : List RangeDesc) (c : Counts) (hs : List Happening) (f : Failure) → Tally budget c hs → IsFailed c hs f → BatchLeft q hs → CauseOf budget q known hs (failed_as c.at_risk f)
failed-cause budget q known c hs (Failure.Condition i v) t e left = has-failed budget q c hs (Failure.Condition i v) t e left
failed-cause budget q known c hs (Failure.TooOld i k s) t e left = has-failed budget q c hs (Failure.TooOld i k s) t e left
failed-cause budget q known c hs (Failure.NotInteger i) t e left = has-failed budget q c hs (Failure.NotInteger i) t e left
failed-cause budget q known c hs (Failure.Overflow i) t e left = has-failed budget q c hs (Failure.Overflow i) t e left
failed-cause budget q known c hs Failure.Aborted t e left = has-failed budget q c hs Failure.Aborted t e left
failed-cause budget q known c hs Failure.Committed t e left = record { lost_is = t.risked_is; why = inr (inl (has-failed budget q c hs Failure.Committed t e left)) }

ran-out : (budget : ℕ) (q : Asking) (c : Counts) (hs : List Happening) (refused lost : ℕ) → Tally budget c hs → IsExhausted c hs refused lost → BatchLeft q hs → RanOut budget q hs refused lost
ran-out budget q c hs refused lost t e left = record {
  none_failed = e.none_failed;
  used = record {
    refusals = sym (e.refused_is ∙ t.refused_is);
    losses = sym (e.lost_is ∙ t.lost_is);
    sum = ap (λ n. n + lost) e.refused_is ∙ ap (λ n. c.refused + n) e.lost_is ∙ e.spent ∙ t.budget_is;
  };
  left = left;
}

as-counted : (budget : ℕ) (q : Asking) (hs : List Happening) (refused lost : ℕ) → RanOut budget q hs refused lost → RanOut budget q hs (refused_in hs) (lost_in hs)
as-counted budget q hs refused lost r =
    subst (λ n. RanOut budget q hs n (lost_in hs)) (sym r.used.refusals) (subst (λ n. RanOut budget q hs refused n) (sym r.used.losses) r)

exhausted-cause :
    (budget risky : ℕ) (q : Asking) (known : List RangeDesc) (hs : List Happening) (refused lost : ℕ) → risky ≡ risked_in hs → RanOut budget q hs refused lost
    → CauseOf budget q known hs (exhausted_as risky refused lost)
exhausted-cause budget zero q known hs refused lost at r = (sym at, r)
exhausted-cause budget (suc n) q known hs refused lost at r = record { lost_is = at; why = inr (inr (omega arith, as-counted budget q hs refused lost r)) }

shows : (budget : ℕ) (q : Asking) (known : List RangeDesc) (c : Counts) (hs : List Happening) (o : PartOutcome) → Tally budget c hs → BatchEnds q (whole_of q) known c hs o → CauseOf budget q known hs (settled_as c o)
shows budget q known c hs (Ends.Done replies rest) t e = (record { none_failed = e.0; within = within budget c hs t e.2 }, e.3)
shows budget q known c hs (Ends.NotWhole desc) t e = record { well = record { none_failed = e.0; within = within budget c hs t e.2 }; apart = e.3; left = e.4 }
shows budget q known c hs (Ends.Failed f) t e = failed-cause budget q known c hs f t e.0 e.1
shows budget q known c hs (Ends.Ambiguous lost) t e = record {
  lost_is = e.0.lost_is ∙ t.risked_is;
  why = inl (record {
    none_failed = e.0.none_failed;
    within = let r = t.refused_is in let l = t.lost_is in let b = t.budget_is in let fits = e.0.fits in omega (arith, r, l, b, fits);
    at_risk = e.0.at_risk;
    left = e.1;
  });
}
shows budget q known c hs (Ends.Exhausted refused lost) t e = exhausted-cause budget c.at_risk q known hs refused lost t.risked_is (ran-out budget q c hs refused lost t e.0 e.1)

-- ---- by what the wire added

same-added : (a b : Stands) (xs ys : List Happening) → b.past ≡ a.past ++ xs → b.past ≡ a.past ++ ys → xs ≡ ys
same-added a b xs ys x y = append_cancel_left a.past xs ys (sym x ∙ y)

parts-by : (t : Bool) (q : Asking) (hs : List Happening) → OfParts (span_if t q.items) q hs → OfPartsIf t q hs
parts-by true q hs h = h
parts-by false q hs h = tt

shown : (budget : ℕ) (q : Asking) (a b : Stands) (es fs : List Entry) (o : Outcome) → Flew budget q a b es fs o → IsShown budget q a b es o
shown budget q a b es fs o f hs grown =
    let so = f.ended (descs_in es) (entries-first es) in
    subst (λ z. Shows budget q a b es z o) (same-added a b so.0 hs so.1.ran.grown grown)
    (record {
      cause =
          subst (CauseOf budget q (descs_in es) so.0) (sym f.answer)
          (shows budget q (descs_in es) f.counts so.0 f.came (tally budget f.counts so.0 so.1.ran.counts) so.1.ends);
      went_on = so.1.ran.went_on;
      picks = so.1.picks;
      goes = so.1.ran.goes;
      parts = parts-by (must_be_whole q) q so.0 so.1.ran.parts;
      refuses = so.1.ran.refuses;
      loses = so.1.ran.loses;
    })

pub shown-by : (budget : ℕ) (q : Asking) (a b : Stands) (es fs : List Entry) (o : Outcome) → IsGiven o → FlewOrBroke budget q a b es fs o → IsShown budget q a b es o
shown-by budget q a b es fs (Outcome.Ok replies) given f = shown budget q a b es fs (Outcome.Ok replies) f
shown-by budget q a b es fs (Outcome.Illegal i) given f = shown budget q a b es fs (Outcome.Illegal i) f
shown-by budget q a b es fs (Outcome.MustRollBack since) given f = shown budget q a b es fs (Outcome.MustRollBack since) f
shown-by budget q a b es fs (Outcome.TxnOver status) given f = shown budget q a b es fs (Outcome.TxnOver status) f
shown-by budget q a b es fs (Outcome.OpRequiresTxn desc) given f = shown budget q a b es fs (Outcome.OpRequiresTxn desc) f
shown-by budget q a b es fs (Outcome.NotOnePhase desc) given f = shown budget q a b es fs (Outcome.NotOnePhase desc) f
shown-by budget q a b es fs (Outcome.ConditionFailed i v) given f = shown budget q a b es fs (Outcome.ConditionFailed i v) f
shown-by budget q a b es fs (Outcome.WriteTooOld i k s) given f = shown budget q a b es fs (Outcome.WriteTooOld i k s) f
shown-by budget q a b es fs (Outcome.NotInteger i) given f = shown budget q a b es fs (Outcome.NotInteger i) f
shown-by budget q a b es fs (Outcome.Overflow i) given f = shown budget q a b es fs (Outcome.Overflow i) f
shown-by budget q a b es fs Outcome.TxnAborted given f = shown budget q a b es fs Outcome.TxnAborted f
shown-by budget q a b es fs (Outcome.Ambiguous lost) given f = shown budget q a b es fs (Outcome.Ambiguous lost) f
shown-by budget q a b es fs (Outcome.RetryExhausted refused lost) given f = shown budget q a b es fs (Outcome.RetryExhausted refused lost) f
shown-by budget q a b es fs Outcome.OutOfMemory given f = absurd given

-- what ran between two states, whatever is known beside the cache's descriptors
abbrev RanSo : Asking → Stands → Stands → List Entry → List Entry → Counts → Counts → Type 0
RanSo q a b es fs c d = (known : List RangeDesc) → AreKnown known es → (hs : List Happening) × BatchRan q (whole_of q) [] known (course a es c) (course b fs d) hs

learned : (q : Asking) (a b : Stands) (es fs : List Entry) (c d : Counts) → RanSo q a b es fs c d → Learned a b es fs
learned q a b es fs c d ran hs grown =
    let so = ran (descs_in es) (entries-first es) in
    subst (λ z. AreKnown (known_after (descs_in es) z) fs) (same-added a b so.0 hs so.1.grown grown) (so.1.entries (entries-first es))

flown : (budget : ℕ) (q : Asking) (a b : Stands) (es fs : List Entry) (o : Outcome) → Flew budget q a b es fs o → Learned a b es fs
flown budget q a b es fs o f = learned q a b es fs (first_counts budget) f.counts (λ known all. let so = f.ended known all in (so.0, so.1.ran))

pub learned-by : (budget : ℕ) (q : Asking) (a b : Stands) (es fs : List Entry) (o : Outcome) → FlewOrBroke budget q a b es fs o → Learned a b es fs
learned-by budget q a b es fs (Outcome.Ok replies) f = flown budget q a b es fs (Outcome.Ok replies) f
learned-by budget q a b es fs (Outcome.Illegal i) f = flown budget q a b es fs (Outcome.Illegal i) f
learned-by budget q a b es fs (Outcome.MustRollBack since) f = flown budget q a b es fs (Outcome.MustRollBack since) f
learned-by budget q a b es fs (Outcome.TxnOver status) f = flown budget q a b es fs (Outcome.TxnOver status) f
learned-by budget q a b es fs (Outcome.OpRequiresTxn desc) f = flown budget q a b es fs (Outcome.OpRequiresTxn desc) f
learned-by budget q a b es fs (Outcome.NotOnePhase desc) f = flown budget q a b es fs (Outcome.NotOnePhase desc) f
learned-by budget q a b es fs (Outcome.ConditionFailed i v) f = flown budget q a b es fs (Outcome.ConditionFailed i v) f
learned-by budget q a b es fs (Outcome.WriteTooOld i k s) f = flown budget q a b es fs (Outcome.WriteTooOld i k s) f
learned-by budget q a b es fs (Outcome.NotInteger i) f = flown budget q a b es fs (Outcome.NotInteger i) f
learned-by budget q a b es fs (Outcome.Overflow i) f = flown budget q a b es fs (Outcome.Overflow i) f
learned-by budget q a b es fs Outcome.TxnAborted f = flown budget q a b es fs Outcome.TxnAborted f
learned-by budget q a b es fs (Outcome.Ambiguous lost) f = flown budget q a b es fs (Outcome.Ambiguous lost) f
learned-by budget q a b es fs (Outcome.RetryExhausted refused lost) f = flown budget q a b es fs (Outcome.RetryExhausted refused lost) f
learned-by budget q a b es fs Outcome.OutOfMemory f = learned q a b es fs (first_counts budget) f.counts (λ known all. let so = f.begun known all in (so.0, so.1.ran))
