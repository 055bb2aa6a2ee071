-- One part's flight after another, as the batch's.
use Rattle.std.proofs.Common.{◌≡◌, ℕ, ◌<◌, ◌≤◌, length, List, [], ◌∷◌, ◌++◌, map, Option, Some, None, inl, inr, refl, sym, ap, ◌∙◌, subst, append_assoc, arith}
use Rattle.std.proofs.lemmas.List.{append-nil}
use Rattle.std.proofs.lemmas.List.Concat.{flat_map-append}
use Rattle.ds_base.specs.Counts.{Rose}
use Rattle.ds_base.specs.Order.{Extent}
use Rattle.ds_desc.specs.declared.desc.RangeDesc.{RangeDesc}
use Rattle.ds_base.proofs.SmallFacts.{and_first}
use Rattle.ds_kind.specs.Asks.{has_proper_span}
use Rattle.ds_kind.specs.Left.{is_used_up, left_after}
use Rattle.ds_kind.specs.Parts.{all_items}
use Rattle.ds_kind.specs.declared.batch.Item.{Item}
use Rattle.ds_kind.specs.declared.batch.Part.{Part}
use Rattle.ds_kind.specs.declared.reply.Reply.{Reply}
use Rattle.ds_cover.specs.Coverage.{Covered}
use Rattle.ds_cover.specs.Items.{AreProper, PositionsRise}
use Rattle.ds_cover.specs.Laws.{joined as all_blocks}
use Rattle.ds_retry.specs.declared.outcome.PartOutcome.{PartOutcome}
use Rattle.ds_retry.specs.declared.outcome.PartOutcome.TheVariants.{Done}
use Rattle.ds_retry.specs.declared.outcome.PartOutcome.TheVariants as Outcome
use Rattle.ds_rule.proofs.Eachs.{each-append}
use Rattle.ds_rule.specs.Asking.{Asking}
use Rattle.ds_rule.specs.Journal.{Accepted, Happening, Moved, Did, Runs, accepted, accepted_by}
use Rattle.ds_rule.specs.Path.{IsHigh, LosesOnly}
use Rattle.ds_rule.specs.Pieces.{Each, IsOneOf, parts_apart}
use Rattle.ds_rule.specs.Sending.{AllOf, left_of}
use Rattle.ds_rule.specs.Gathered.{Gathered}
use Rattle.ds_rule.specs.declared.answer.Answer.TheVariants as Answer
use Rattle.ds_rule.specs.declared.journal.JournalStep.{JournalStep}
use Rattle.ds_rule.specs.declared.journal.JournalStep.TheVariants.{Look, Send}
use Rattle.ds_flight.specs.Causes.{AllGoOn, DoneWith, GoesOn}
use Rattle.ds_flight.specs.Counting.{counted}
use Rattle.ds_flight.specs.Covers.{AllCover}
use Rattle.ds_flight.specs.Ends.{NoneEnds}
use Rattle.ds_flight.specs.Flights.{Flight, AllAtOnce, AllOfPart, StepOfPart}
use Rattle.ds_flight.specs.Flown.{Ended, SomeLeft}
use Rattle.ds_flight.specs.Goes.{Goes, StepGoes, descs_of, known_after, told_by}
use Rattle.ds_flight.specs.Left.{blocks_of, failures, left_over, replies_by}
use Rattle.ds_flight.specs.Picks.{TookPicks}
use Rattle.ds_flight.specs.Ran.{AreKnown, Course, Ran, RefusesOnly}
use Rattle.ds_flight.proofs.Accepting.{all-answer, done-gathered}
use Rattle.ds_flight.proofs.Joins.{counted-append, failures-append, go-on-append, goes-append, known-append, last-append, loses-more, missed-append, refuses-more, rose-left, rose-right, runs-append, took-then, unended-append}
use Rattle.ds_mean.specs.InTurn.{AllInTurn, AreAll, IsLeft, items_of, places_at}
use Rattle.ds_mean.proofs.Covering.{blocks_left, parts_left}
use Rattle.ds_rule.specs.Whole.{IsOfPart}
use Rattle.ds_send.specs.Batched.{BatchBegun, BatchEnded, BatchLeft, BatchRan, IsNotDone, OfParts}
use Rattle.ds_send.proofs.CoversInTurn.{all-match, covered-places, covers-in-turn, match-items}
use Rattle.ds_send.proofs.PartSteps.{IsPartOf, part-of-batch, part-rises, rises-left}
use Rattle.ds_send.proofs.PartsGathered.{PartGives, both-give, none-give}

-- ---- what happened in one call after another

accepted-both : (xs ys : List Happening) → accepted (xs ++ ys) ≡ accepted xs ++ accepted ys
accepted-both [] ys = refl
accepted-both (Moved e ∷ xs) ys = accepted-both xs ys
accepted-both (Did s ∷ xs) ys = ap (λ zs. accepted_by s ++ zs) (accepted-both xs ys) ∙ sym (append_assoc (accepted_by s) (accepted xs) (accepted ys))

of-both : (q : Asking) (got : List Accepted) (xs ys : List Happening) → AllOf q got xs → AllOf q (got ++ accepted xs) ys → AllOf q got (xs ++ ys)
of-both q got [] ys a b = subst (λ z. AllOf q z ys) (append-nil got) b
of-both q got (Moved e ∷ xs) ys a b = of-both q got xs ys a b
of-both q got (Did s ∷ xs) ys a b = (a.0, of-both q (got ++ accepted_by s) xs ys a.1 (subst (λ z. AllOf q z ys) (sym (append_assoc got (accepted_by s) (accepted xs))) b))

turns-both : (q : Asking) (got : List Accepted) (xs ys : List Happening) → AllInTurn q.items got xs → AllInTurn q.items (got ++ accepted xs) ys → AllInTurn q.items got (xs ++ ys)
turns-both q got [] ys a b = subst (λ z. AllInTurn q.items z ys) (append-nil got) b
turns-both q got (Moved e ∷ xs) ys a b = turns-both q got xs ys a b
turns-both q got (Did s ∷ xs) ys a b = (a.0, turns-both q (got ++ accepted_by s) xs ys a.1 (subst (λ z. AllInTurn q.items z ys) (sym (append_assoc got (accepted_by s) (accepted xs))) b))

between : (a b c : ℕ) → a ≤ b → b ≤ c → a ≤ c
between a b c x y = omega (arith, x, y)

parts-none : (whole : Option Extent) (q : Asking) → OfParts whole q []
parts-none None q = tt
parts-none (Some w) q = tt

parts-both : (whole : Option Extent) (q : Asking) (xs ys : List Happening) → OfParts whole q xs → OfParts whole q ys → OfParts whole q (xs ++ ys)
parts-both None q xs ys a b = tt
parts-both (Some w) q xs ys a b = each-append (IsOfPart q) xs ys a b

pub batch-none : (q : Asking) (whole : Option Extent) (got : List Accepted) (known : List RangeDesc) (a : Course) → BatchRan q whole got known a a []
batch-none q whole got known a = record {
  grown = sym (append-nil a.wire.past);
  runs = refl;
  floor = refl;
  block = refl;
  high = tt;
  of = tt;
  turns = tt;
  goes = tt;
  parts = parts-none whole q;
  counts = refl;
  went_on = tt;
  refused = omega arith;
  lost = omega arith;
  refuses = tt;
  loses = tt;
  entries = λ h. h;
}

pub batch-append :
    (q : Asking) (whole : Option Extent) (got : List Accepted) (known : List RangeDesc) (a b c : Course) (xs ys : List Happening)
    → BatchRan q whole got known a b xs → BatchRan q whole (got ++ accepted xs) (known_after known xs) b c ys → BatchRan q whole got known a c (xs ++ ys)
batch-append q whole got known a b c xs ys x y = record {
  grown = y.grown ∙ ap (λ zs. zs ++ ys) x.grown ∙ append_assoc a.wire.past xs ys;
  runs = runs-append a.wire.world b.wire.world c.wire.world xs ys x.runs y.runs;
  floor = y.floor ∙ x.floor;
  block = y.block ∙ x.block;
  high = each-append (IsHigh a.wire.floor) xs ys x.high (subst (λ n. Each (IsHigh n) ys) x.floor y.high);
  of = of-both q got xs ys x.of y.of;
  turns = turns-both q got xs ys x.turns y.turns;
  goes = goes-append None known xs ys x.goes y.goes;
  parts = parts-both whole q xs ys x.parts y.parts;
  counts = y.counts ∙ ap (λ n. counted n ys) x.counts ∙ sym (counted-append a.counts xs ys);
  went_on = go-on-append a.counts xs ys x.went_on (subst (λ n. AllGoOn n ys) x.counts y.went_on);
  refused = between a.wire.refused b.wire.refused c.wire.refused x.refused y.refused;
  lost = between a.wire.lost b.wire.lost c.wire.lost x.lost y.lost;
  refuses = each-append (RefusesOnly (Rose a.wire.refused c.wire.refused)) xs ys
      (refuses-more (Rose a.wire.refused b.wire.refused) (Rose a.wire.refused c.wire.refused) xs (rose-left a.wire.refused b.wire.refused c.wire.refused y.refused) x.refuses)
      (refuses-more (Rose b.wire.refused c.wire.refused) (Rose a.wire.refused c.wire.refused) ys (rose-right a.wire.refused b.wire.refused c.wire.refused x.refused y.refused) y.refuses);
  loses = each-append (LosesOnly (Rose a.wire.lost c.wire.lost)) xs ys
      (loses-more (Rose a.wire.lost b.wire.lost) (Rose a.wire.lost c.wire.lost) xs (rose-left a.wire.lost b.wire.lost c.wire.lost y.lost) x.loses)
      (loses-more (Rose b.wire.lost c.wire.lost) (Rose a.wire.lost c.wire.lost) ys (rose-right a.wire.lost b.wire.lost c.wire.lost x.lost y.lost) y.loses);
  entries = λ h. subst (λ ds. AreKnown ds c.entries) (sym (known-append known xs ys)) (y.entries (x.entries h));
}

-- ---- a part's flight is the batch's

goes-anywhere : (whole : Option Extent) (known : List RangeDesc) (s : JournalStep) → StepGoes whole known s → StepGoes None known s
goes-anywhere whole known (Look k d l) g = tt
goes-anywhere whole known (Send n p a) g = (g.0, g.1, record { replica = g.2.replica; range = g.2.range; held = g.2.held; one = tt })

all-go : (whole : Option Extent) (known : List RangeDesc) (hs : List Happening) → Goes whole known hs → Goes None known hs
all-go whole known [] g = tt
all-go whole known (Moved e ∷ hs) g = all-go whole known hs g
all-go whole known (Did s ∷ hs) g = (goes-anywhere whole known s g.0, all-go whole (known ++ descs_of (told_by s)) hs g.1)

-- where a span must lie in one range, each piece has all items of its part

one-of-parts : (xs ys : List Part) (p : Part) → IsOneOf p.items (map (λ (t : Part). t.items) (xs ++ p ∷ ys))
one-of-parts [] ys p = inl refl
one-of-parts (x ∷ xs) ys p = inr (one-of-parts xs ys p)

step-part : (q : Asking) (f : Flight) (w : Extent) (left : Option ℕ) (s : JournalStep) → IsPartOf q f → f.whole ≡ Some w → StepOfPart f left s → IsOfPart q (Did s)
step-part q f w left (Look k d l) h is of = tt
step-part q f w left (Send n p a) h is of =
    let same : p.items ≡ f.part.items = subst (λ o. AllAtOnce o f.part.items p.items) is of.of.all in
    subst (λ z. IsOneOf z (map (λ (t : Part). t.items) (parts_apart q.items))) (sym same)
    (subst (λ z. IsOneOf f.part.items (map (λ (t : Part). t.items) z)) (sym h.parts) (one-of-parts h.before h.later f.part))

steps-part : (q : Asking) (f : Flight) (w : Extent) (left : Option ℕ) (hs : List Happening) → IsPartOf q f → f.whole ≡ Some w → AllOfPart f left hs → Each (IsOfPart q) hs
steps-part q f w left [] h is of = tt
steps-part q f w left (Moved e ∷ hs) h is of = (tt, steps-part q f w left hs h is of)
steps-part q f w left (Did s ∷ hs) h is of = (step-part q f w left s h is of.0, steps-part q f w (left_after left (replies_by s)) hs h is of.1)

its-parts : (q : Asking) (f : Flight) (left : Option ℕ) (hs : List Happening) → IsPartOf q f → AllOfPart f left hs → OfParts f.whole q hs
its-parts q f left hs h of =
    elim f.whole as (λ o. f.whole ≡ o → OfParts o q hs) [
      | None ↦ λ e. tt
      | Some w ↦ λ e. steps-part q f w left hs h e of
    ] refl

pub part-ran :
    (q : Asking) (f : Flight) (got : List Accepted) (known : List RangeDesc) (left : Option ℕ) (a b : Course) (hs : List Happening)
    → (h : IsPartOf q f) → AreAll (all_items h.before) (items_of got) → left ≡ left_of q got
    → Ran f known left a b hs → AllCover f.part.items [] hs → BatchRan q f.whole got known a b hs
part-ran q f got known left a b hs h all same ran covers = record {
  grown = ran.grown;
  runs = ran.runs;
  floor = ran.floor;
  block = ran.block;
  high = ran.high;
  of = part-of-batch q f got left hs h same ran.of;
  turns =
      subst (λ z. AllInTurn q.items z hs) (append-nil got)
      (covers-in-turn q (all_items h.before) f.part.items (all_items h.later) got [] [] hs h.items all refl (all-match a.wire.world b.wire.world hs ran.runs) covers);
  goes = all-go f.whole known hs ran.goes;
  parts = its-parts q f left hs h ran.of;
  counts = ran.counts;
  went_on = ran.went_on;
  refused = ran.refused;
  lost = ran.lost;
  refuses = ran.refuses;
  loses = ran.loses;
  entries = ran.entries;
}

-- ---- a part that is done, after those before it

over-none : (hs : List Happening) → left_over None hs ≡ None
over-none [] = refl
over-none (Moved e ∷ hs) = over-none hs
over-none (Did s ∷ hs) = over-none hs

pub of-none : (q : Asking) (got : List Accepted) → q.head.left ≡ None → None ≡ left_of q got
of-none q got none = sym (ap (λ l. left_after l (map (λ (c : Accepted). c.reply) got)) none)

part-gives :
    (q : Asking) (f : Flight) (known : List RangeDesc) (a b : Course) (hs : List Happening) (replies : List Reply) (rest : Option ℕ)
    → IsPartOf q f → AreProper f.part.items → Ended f known None a b hs (Done replies rest) → PartGives f.part.items (accepted hs) replies
part-gives q f known a b hs replies rest h proper e =
    let none : rest ≡ None = e.cause.left_is ∙ over-none hs in
    let whole = subst (λ r. DoneWith (is_used_up r) f replies hs) none e.cause.with in
    record {
      answers = (all-answer f a.wire.world b.wire.world hs e.ran.runs e.ran.of).answers;
      gathered = done-gathered f a.wire.world b.wire.world hs replies (part-rises q f h) proper e.ran.runs e.ran.of whole;
      all = λ k. covered-places f.part.items (blocks_of hs) whole.covered k ∙ ap (places_at k) (sym (match-items hs (all-match a.wire.world b.wire.world hs e.ran.runs)));
    }

-- ---- all parts so far

-- these parts were all done, and these are their replies
pub record PartsDone (q : Asking) (whole : Option Extent) (parts : List Part) (known : List RangeDesc) (a b : Course) (hs : List Happening) (replies : List Reply) : Type 0 where
  pub ran : BatchRan q whole [] known a b hs
  pub picks : TookPicks a.wire.ahead b.wire.ahead hs
  pub none_failed : failures hs ≡ []
  pub unended : NoneEnds hs
  pub gives : PartGives (all_items parts) (accepted hs) replies

pub parts-first : (q : Asking) (whole : Option Extent) (known : List RangeDesc) (a : Course) → PartsDone q whole [] known a a [] []
parts-first q whole known a = record { ran = batch-none q whole [] known a; picks = refl; none_failed = refl; unended = tt; gives = none-give }

one-more-item : (ps : List Part) (p : Part) → all_items (ps ++ p ∷ []) ≡ all_items ps ++ p.items
one-more-item ps p = flat_map-append (λ (t : Part). t.items) ps (p ∷ []) ∙ ap (λ z. all_items ps ++ z) (append-nil p.items)

rises-two : (xs ys zs : List Item) → PositionsRise (xs ++ (ys ++ zs)) → PositionsRise (xs ++ ys)
rises-two xs ys zs h = rises-left (xs ++ ys) zs (subst PositionsRise (sym (append_assoc xs ys zs)) h)

-- one more part is flown, after those before it
pub more-ran :
    (q : Asking) (f : Flight) (known : List RangeDesc) (left : Option ℕ) (a b c : Course) (xs ys : List Happening) (us : List Reply)
    → (h : IsPartOf q f) → left ≡ left_of q (accepted xs) → PartsDone q f.whole h.before known a b xs us
    → Ran f (known_after known xs) left b c ys → AllCover f.part.items [] ys → BatchRan q f.whole [] known a c (xs ++ ys)
more-ran q f known left a b c xs ys us h same d ran covers =
    batch-append q f.whole [] known a b c xs ys d.ran (part-ran q f (accepted xs) (known_after known xs) left b c ys h d.gives.all same ran covers)

pub parts-more :
    (q : Asking) (f : Flight) (known : List RangeDesc) (a b c : Course) (xs ys : List Happening) (us vs : List Reply) (rest : Option ℕ)
    → (h : IsPartOf q f) → q.head.left ≡ None → AreProper f.part.items → PartsDone q f.whole h.before known a b xs us
    → Ended f (known_after known xs) None b c ys (Done vs rest) → PartsDone q f.whole (h.before ++ f.part ∷ []) known a c (xs ++ ys) (us ++ vs)
parts-more q f known a b c xs ys us vs rest h none proper d e = record {
  ran = more-ran q f known None a b c xs ys us h (of-none q (accepted xs) none) d e.ran e.covers;
  picks = took-then a.wire.ahead b.wire.ahead c.wire.ahead xs ys d.picks e.picks;
  none_failed = failures-append xs ys ∙ ap (λ z. z ++ failures ys) d.none_failed ∙ e.cause.none_failed;
  unended = unended-append xs ys d.unended e.cause.unended;
  gives =
      subst (λ z. PartGives z (accepted (xs ++ ys)) (us ++ vs)) (sym (one-more-item h.before f.part))
      (subst (λ z. PartGives (all_items h.before ++ f.part.items) z (us ++ vs)) (sym (accepted-both xs ys))
      (both-give (all_items h.before) f.part.items (accepted xs) (accepted ys) us vs
      (rises-two (all_items h.before) f.part.items (all_items h.later) (subst PositionsRise h.items h.rise)) d.gives
      (part-gives q f (known_after known xs) b c ys vs rest h proper e)));
}

-- ---- the end

-- all parts are done
pub all-done :
    (q : Asking) (whole : Option Extent) (parts : List Part) (known : List RangeDesc) (a b : Course) (hs : List Happening) (replies : List Reply) (rest : Option ℕ)
    → all_items parts ≡ q.items → GoesOn b.counts → PartsDone q whole parts known a b hs replies → BatchEnded q whole known a b hs (Done replies rest)
all-done q whole parts known a b hs replies rest all on d = record {
  ran = d.ran;
  picks = d.picks;
  ends = (
    d.none_failed,
    d.unended,
    on,
    record {
      all = subst (λ z. AreAll z (items_of (accepted hs))) all d.gives.all;
      gathered = subst (λ z. Gathered (accepted hs) z replies) all d.gives.gathered;
    },
  );
}

-- something of a part is left, so something of the batch is
part-left :
    (q : Asking) (f : Flight) (known : List RangeDesc) (a b c : Course) (xs ys : List Happening) (us : List Reply)
    → (h : IsPartOf q f) → PartsDone q f.whole h.before known a b xs us → Runs b.wire.world ys c.wire.world → SomeLeft f ys → BatchLeft q (xs ++ ys)
part-left q f known a b c xs ys us h d runs s =
    let part : IsLeft f.part.items (items_of (accepted ys)) = subst (IsLeft f.part.items) (sym (match-items ys (all-match b.wire.world c.wire.world ys runs))) (block-left s.block s.some s.proper s.covered) in
    subst (λ z. IsLeft z (items_of (accepted (xs ++ ys)))) (sym h.items)
    (subst (λ z. IsLeft (all_items h.before ++ (f.part.items ++ all_items h.later)) (items_of z)) (sym (accepted-both xs ys))
    (parts_left (all_items h.before) f.part.items (all_items h.later) (accepted xs) (accepted ys) d.gives.all part))
  where
    block-left : (block : List Item) → 0 < length block → AreProper block → Covered f.part.items (blocks_of ys ++ block ∷ s.others) → IsLeft f.part.items (all_blocks (blocks_of ys))
    block-left [] some proper cov = absurd (omega (arith, some))
    block-left (i ∷ is) some proper cov = blocks_left f.part.items (blocks_of ys) i is s.others cov (and_first (has_proper_span i.request) _ proper)

one-of-all : (xs ys : List Part) (p : Part) → IsOneOf p (xs ++ p ∷ ys)
one-of-all [] ys p = inl refl
one-of-all (x ∷ xs) ys p = inr (one-of-all xs ys p)

known-later : (desc : RangeDesc) (known : List RangeDesc) (xs ys : List Happening) → IsOneOf desc (known_after (known_after known xs) ys) → IsOneOf desc (known_after known (xs ++ ys))
known-later desc known xs ys h = subst (IsOneOf desc) (sym (known-append known xs ys)) h

none-too : (xs ys : List Happening) → failures xs ≡ [] → failures ys ≡ [] → failures (xs ++ ys) ≡ []
none-too xs ys a b = failures-append xs ys ∙ ap (λ z. z ++ failures ys) a ∙ b

-- a part ended otherwise
pub part-ended :
    (q : Asking) (f : Flight) (known : List RangeDesc) (left : Option ℕ) (a b c : Course) (xs ys : List Happening) (us : List Reply) (o : PartOutcome)
    → (h : IsPartOf q f) → left ≡ left_of q (accepted xs) → IsNotDone o → PartsDone q f.whole h.before known a b xs us
    → Ended f (known_after known xs) left b c ys o → BatchEnded q f.whole known a c (xs ++ ys) o
part-ended q f known left a b c xs ys us (Done replies rest) h same not d e = absurd not
part-ended q f known left a b c xs ys us (Outcome.NotWhole desc) h same not d e = record {
  ran = more-ran q f known left a b c xs ys us h same d e.ran e.covers;
  picks = took-then a.wire.ahead b.wire.ahead c.wire.ahead xs ys d.picks e.picks;
  ends = (
    none-too xs ys d.none_failed e.cause.idle.failed,
    unended-append xs ys d.unended e.cause.unended,
    e.cause.goes_on,
    record {
      is_known = known-later desc known xs ys e.cause.is_known;
      flight = f;
      part = subst (IsOneOf f.part) (sym h.parts) (one-of-all h.before h.later f.part);
      apart = e.cause.apart;
    },
    part-left q f known a b c xs ys us h d e.ran.runs e.unfinished,
  );
}
part-ended q f known left a b c xs ys us (Outcome.Failed failure) h same not d e = record {
  ran = more-ran q f known left a b c xs ys us h same d e.ran e.covers;
  picks = took-then a.wire.ahead b.wire.ahead c.wire.ahead xs ys d.picks e.picks;
  ends = (
    record {
      failed = failures-append xs ys ∙ ap (λ z. z ++ failures ys) d.none_failed ∙ e.cause.failed;
      goes_on = e.cause.goes_on;
      piece = e.cause.piece;
      last = last-append e.cause.piece (Answer.Failed failure) xs ys d.unended e.cause.last;
    },
    part-left q f known a b c xs ys us h d e.ran.runs e.unfinished,
  );
}
part-ended q f known left a b c xs ys us (Outcome.Ambiguous lost) h same not d e = record {
  ran = more-ran q f known left a b c xs ys us h same d e.ran e.covers;
  picks = took-then a.wire.ahead b.wire.ahead c.wire.ahead xs ys d.picks e.picks;
  ends = (
    record {
      none_failed = none-too xs ys d.none_failed e.cause.none_failed;
      fits = e.cause.fits;
      lost_is = e.cause.lost_is;
      at_risk = record {
        piece = e.cause.at_risk.piece;
        risky = e.cause.at_risk.risky;
        alone = e.cause.at_risk.alone;
        last = last-append e.cause.at_risk.piece Answer.Lost xs ys d.unended e.cause.at_risk.last;
      };
    },
    part-left q f known a b c xs ys us h d e.ran.runs e.unfinished,
  );
}
part-ended q f known left a b c xs ys us (Outcome.Exhausted refused lost) h same not d e = record {
  ran = more-ran q f known left a b c xs ys us h same d e.ran e.covers;
  picks = took-then a.wire.ahead b.wire.ahead c.wire.ahead xs ys d.picks e.picks;
  ends = (
    record {
      none_failed = none-too xs ys d.none_failed e.cause.none_failed;
      unended = unended-append xs ys d.unended e.cause.unended;
      spent = e.cause.spent;
      last = missed-append xs ys e.cause.last;
      refused_is = e.cause.refused_is;
      lost_is = e.cause.lost_is;
    },
    part-left q f known a b c xs ys us h d e.ran.runs e.unfinished,
  );
}

-- ---- before memory was wanted nothing may have happened yet, but the budget isn't used up

pub nothing-began : (q : Asking) (whole : Option Extent) (known : List RangeDesc) (a : Course) → GoesOn a.counts → BatchBegun q whole known a a []
nothing-began q whole known a on = record { ran = batch-none q whole [] known a; picks = inl refl; unended = tt; goes_on = on }

pub not-at-the-budget :
    (q : Asking) (whole : Option Extent) (known : List RangeDesc) (a b : Course) (hs : List Happening)
    → b.counts ≡ record { refused = 1; lost = 1; at_risk = 0; budget = 2 } → BatchBegun q whole known a b hs → ⊥
not-at-the-budget q whole known a b hs is begun = let low : 2 < 2 = subst GoesOn is begun.goes_on in omega (arith, low)
