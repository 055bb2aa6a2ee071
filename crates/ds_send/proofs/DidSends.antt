-- What the parts' flights did is what the law of a sender speaks of.
use Rattle.std.proofs.Common.{◌≡◌, ℕ, zero, suc, ◌+◌, List, [], ◌∷◌, ◌++◌, map, Option, Some, inl, inr, refl, sym, ap, ◌∙◌, subst, arith}
use Rattle.std.proofs.lemmas.List.{append-nil}
use Rattle.ds_base.specs.Order.{Extent}
use Rattle.ds_desc.specs.declared.desc.RangeDesc.{RangeDesc}
use Rattle.ds_desc.specs.declared.meta.Looked.TheVariants as Looked
use Rattle.ds_kind.specs.Parts.{all_items}
use Rattle.ds_kind.specs.declared.batch.Part.{Part}
use Rattle.ds_kind.specs.declared.reply.Failure.{Failure}
use Rattle.ds_retry.specs.Counted.{Counts, first_counts}
use Rattle.ds_retry.specs.declared.outcome.PartOutcome.{PartOutcome}
use Rattle.ds_retry.specs.declared.outcome.PartOutcome.TheVariants as Ends
use Rattle.ds_rule.specs.Asking.{Asking}
use Rattle.ds_rule.specs.Cause.{UsedUp, lost_in, refused_in}
use Rattle.ds_rule.specs.Journal.{Happening, Moved, Did}
use Rattle.ds_rule.specs.Pieces.{Each, IsOneOf, parts_apart}
use Rattle.ds_rule.specs.declared.answer.Answer.TheVariants.{Done, Failed, Refused, Lost}
use Rattle.ds_rule.specs.declared.journal.JournalStep.TheVariants.{Look, Send}
use Rattle.ds_flight.specs.Causes.{IsExhausted, IsFailed}
use Rattle.ds_flight.specs.Counting.{counted, counted_step}
use Rattle.ds_flight.specs.Ran.{Course}
use Rattle.ds_mean.specs.Send.{CameToFail, DidSend, IsOfAll, ShowsWhy, WritesAlone}
use Rattle.ds_mean.specs.Told.{IsTold}
use Rattle.ds_rule.specs.Whole.{IsOfPart}
use Rattle.ds_send.specs.Batched.{BatchEnded, BatchEnds, BatchLeft, OfParts}
use Rattle.ds_send.specs.Settled.{exhausted_as, failed_as, settled_as}

-- ---- counts

pub counts-refused : (c : Counts) (hs : List Happening) → (counted c hs).refused ≡ c.refused + refused_in hs
counts-refused c [] = omega arith
counts-refused c (Moved e ∷ hs) = counts-refused c hs
counts-refused c (Did (Look k d (Looked.Rows is)) ∷ hs) = let more = counts-refused c hs in omega (arith, more)
counts-refused c (Did (Look k d Looked.Lost) ∷ hs) = let more = counts-refused (counted_step c (Look k d Looked.Lost)) hs in omega (arith, more)
counts-refused c (Did (Send n p (Done rs)) ∷ hs) = let more = counts-refused c hs in omega (arith, more)
counts-refused c (Did (Send n p (Failed f)) ∷ hs) = let more = counts-refused c hs in omega (arith, more)
counts-refused c (Did (Send n p (Refused r)) ∷ hs) = let more = counts-refused (counted_step c (Send n p (Refused r))) hs in omega (arith, more)
counts-refused c (Did (Send n p Lost) ∷ hs) = let more = counts-refused (counted_step c (Send n p Lost)) hs in omega (arith, more)

pub counts-lost : (c : Counts) (hs : List Happening) → (counted c hs).lost ≡ c.lost + lost_in hs
counts-lost c [] = omega arith
counts-lost c (Moved e ∷ hs) = counts-lost c hs
counts-lost c (Did (Look k d (Looked.Rows is)) ∷ hs) = let more = counts-lost c hs in omega (arith, more)
counts-lost c (Did (Look k d Looked.Lost) ∷ hs) = let more = counts-lost (counted_step c (Look k d Looked.Lost)) hs in omega (arith, more)
counts-lost c (Did (Send n p (Done rs)) ∷ hs) = let more = counts-lost c hs in omega (arith, more)
counts-lost c (Did (Send n p (Failed f)) ∷ hs) = let more = counts-lost c hs in omega (arith, more)
counts-lost c (Did (Send n p (Refused r)) ∷ hs) = let more = counts-lost (counted_step c (Send n p (Refused r))) hs in omega (arith, more)
counts-lost c (Did (Send n p Lost) ∷ hs) = let more = counts-lost (counted_step c (Send n p Lost)) hs in omega (arith, more)

pub counts-budget : (c : Counts) (hs : List Happening) → (counted c hs).budget ≡ c.budget
counts-budget c [] = refl
counts-budget c (Moved e ∷ hs) = counts-budget c hs
counts-budget c (Did (Look k d (Looked.Rows is)) ∷ hs) = counts-budget c hs
counts-budget c (Did (Look k d Looked.Lost) ∷ hs) = counts-budget (counted_step c (Look k d Looked.Lost)) hs
counts-budget c (Did (Send n p (Done rs)) ∷ hs) = counts-budget c hs
counts-budget c (Did (Send n p (Failed f)) ∷ hs) = counts-budget c hs
counts-budget c (Did (Send n p (Refused r)) ∷ hs) = counts-budget (counted_step c (Send n p (Refused r))) hs
counts-budget c (Did (Send n p Lost) ∷ hs) = counts-budget (counted_step c (Send n p Lost)) hs

-- where no send was lost, none was lost at risk
pub none-at-risk : (c : Counts) (hs : List Happening) → Each IsTold hs → (counted c hs).at_risk ≡ c.at_risk
none-at-risk c [] told = refl
none-at-risk c (Moved e ∷ hs) told = none-at-risk c hs told.1
none-at-risk c (Did (Look k d (Looked.Rows is)) ∷ hs) told = none-at-risk c hs told.1
none-at-risk c (Did (Look k d Looked.Lost) ∷ hs) told = let more = none-at-risk (counted_step c (Look k d Looked.Lost)) hs told.1 in omega (arith, more)
none-at-risk c (Did (Send n p (Done rs)) ∷ hs) told = none-at-risk c hs told.1
none-at-risk c (Did (Send n p (Failed f)) ∷ hs) told = none-at-risk c hs told.1
none-at-risk c (Did (Send n p (Refused r)) ∷ hs) told = none-at-risk (counted_step c (Send n p (Refused r))) hs told.1
none-at-risk c (Did (Send n p Lost) ∷ hs) told = absurd told.0

-- ---- the last step

not-told : (before : List Happening) (n : ℕ) (p : _) → Each IsTold (before ++ Did (Send n p Lost) ∷ []) → ⊥
not-told [] n p told = told.0
not-told (h ∷ before) n p told = not-told before n p told.1

-- ---- why it was answered so

fails-so : (q : Asking) (c : Counts) (hs : List Happening) (f : Failure) → IsFailed c hs f → BatchLeft q hs → CameToFail q hs f
fails-so q c hs f failed left = record {
  left = left;
  last = record { before = failed.last.before; node = failed.last.node; piece = failed.piece; last = failed.last.last };
}

shows-failure : (budget : ℕ) (q : Asking) (c : Counts) (hs : List Happening) (f : Failure) → IsFailed c hs f → BatchLeft q hs → ShowsWhy budget q hs (failed_as c.at_risk f)
shows-failure budget q c hs (Failure.Condition i v) failed left = fails-so q c hs (Failure.Condition i v) failed left
shows-failure budget q c hs (Failure.TooOld i k t) failed left = fails-so q c hs (Failure.TooOld i k t) failed left
shows-failure budget q c hs (Failure.NotInteger i) failed left = fails-so q c hs (Failure.NotInteger i) failed left
shows-failure budget q c hs (Failure.Overflow i) failed left = fails-so q c hs (Failure.Overflow i) failed left
shows-failure budget q c hs Failure.Aborted failed left = fails-so q c hs Failure.Aborted failed left
shows-failure budget q c hs Failure.Committed failed left = inl (fails-so q c hs Failure.Committed failed left)

from-zero : (m n : ℕ) → m ≡ 0 + n → m ≡ n
from-zero m n h = omega (arith, h)

used-up : (budget : ℕ) (c : Counts) (hs : List Happening) (refused lost : ℕ) → c ≡ counted (first_counts budget) hs → IsExhausted c hs refused lost → UsedUp budget refused lost hs
used-up budget c hs refused lost is e =
    let r : refused ≡ refused_in hs = from-zero refused (refused_in hs) (e.refused_is ∙ ap (λ x. x.refused) is ∙ counts-refused (first_counts budget) hs) in
    let l : lost ≡ lost_in hs = from-zero lost (lost_in hs) (e.lost_is ∙ ap (λ x. x.lost) is ∙ counts-lost (first_counts budget) hs) in
    let b : c.budget ≡ budget = ap (λ x. x.budget) is ∙ counts-budget (first_counts budget) hs in
    record {
      refusals = sym r;
      losses = sym l;
      sum = ap (λ n. n + lost) e.refused_is ∙ ap (λ n. c.refused + n) e.lost_is ∙ e.spent ∙ b;
    }

shows-used-up :
    (budget risky : ℕ) (q : Asking) (c : Counts) (hs : List Happening) (refused lost : ℕ) → c ≡ counted (first_counts budget) hs → risky ≡ c.at_risk
    → IsExhausted c hs refused lost → BatchLeft q hs → ShowsWhy budget q hs (exhausted_as risky refused lost)
shows-used-up budget zero q c hs refused lost is at e left = (left, used-up budget c hs refused lost is e)
shows-used-up budget (suc n) q c hs refused lost is at e left =
    inr (λ told. let none : c.at_risk ≡ 0 = ap (λ x. x.at_risk) is ∙ none-at-risk (first_counts budget) hs told in omega (arith, at, none))

shows-why :
    (budget : ℕ) (q : Asking) (whole : Option Extent) (known : List RangeDesc) (c : Counts) (hs : List Happening) (o : PartOutcome)
    → c ≡ counted (first_counts budget) hs → BatchEnds q whole known c hs o → ShowsWhy budget q hs (settled_as c o)
shows-why budget q whole known c hs (Ends.Done replies rest) is e = e.3
shows-why budget q whole known c hs (Ends.NotWhole desc) is e = e.4
shows-why budget q whole known c hs (Ends.Failed f) is e = shows-failure budget q c hs f e.0 e.1
shows-why budget q whole known c hs (Ends.Ambiguous lost) is e =
    inr (λ told. not-told e.0.at_risk.last.before e.0.at_risk.last.node e.0.at_risk.piece (subst (Each IsTold) e.0.at_risk.last.last told))
shows-why budget q whole known c hs (Ends.Exhausted refused lost) is e = shows-used-up budget c.at_risk q c hs refused lost is refl e.0 e.1

-- ---- a batch that writes without a transaction

-- it has one part, which must lie in one range
pub record GoesWhole (q : Asking) (whole : Option Extent) : Type 0 where
  pub span : Extent
  pub is : whole ≡ Some span
  pub part : Part
  pub one : parts_apart q.items ≡ part ∷ []

of-all : (q : Asking) (part : Part) (hs : List Happening) → parts_apart q.items ≡ part ∷ [] → part.items ≡ q.items → Each (IsOfPart q) hs → Each (IsOfAll q) hs
of-all q part [] one same all = tt
of-all q part (Moved e ∷ hs) one same all = (tt, of-all q part hs one same all.1)
of-all q part (Did (Look k d l) ∷ hs) one same all = (tt, of-all q part hs one same all.1)
of-all q part (Did (Send n p a) ∷ hs) one same all =
    let there : IsOneOf p.items (part.items ∷ []) = subst (λ z. IsOneOf p.items (map (λ (t : Part). t.items) z)) one all.0 in
    (elim there [ inl e ↦ e ∙ same | inr none ↦ absurd none ], of-all q part hs one same all.1)

all-of-it : (q : Asking) (whole : Option Extent) (hs : List Happening) → all_items (parts_apart q.items) ≡ q.items → GoesWhole q whole → OfParts whole q hs → Each (IsOfAll q) hs
all-of-it q whole hs joined goes of =
    of-all q goes.part hs goes.one (sym (append-nil goes.part.items) ∙ ap all_items (sym goes.one) ∙ joined)
    (subst (λ o. OfParts o q hs) goes.is of)

-- ---- what was done

pub did-send :
    (budget : ℕ) (q : Asking) (whole : Option Extent) (known : List RangeDesc) (a b : Course) (hs : List Happening) (o : PartOutcome)
    → a.counts ≡ first_counts budget → all_items (parts_apart q.items) ≡ q.items → (WritesAlone q → GoesWhole q whole)
    → BatchEnded q whole known a b hs o → DidSend budget q a.wire b.wire (settled_as b.counts o)
did-send budget q whole known a b hs o first joined alone e = record {
  added = hs;
  grown = e.ran.grown;
  runs = e.ran.runs;
  floor = e.ran.floor;
  block = e.ran.block;
  high = e.ran.high;
  of = e.ran.of;
  turns = e.ran.turns;
  whole = λ writes. all-of-it q whole hs joined (alone writes) e.ran.parts;
  shows = shows-why budget q whole known b.counts hs o (e.ran.counts ∙ ap (λ c. counted c hs) first) e.ends;
}
