-- What a flight did in one lookup or one send.
use Rattle.std.proofs.Common.{◌≡◌, ℕ, false, List, [], ◌∷◌, ◌++◌, map, Option, refl, sym, ◌∙◌, subst}
use Rattle.ds_base.specs.Order.{Extent}
use Rattle.ds_base.specs.Counts.{Rose}
use Rattle.ds_base.proofs.SmallFacts.{append_nil}
use Rattle.ds_desc.specs.declared.desc.RangeDesc.{RangeDesc}
use Rattle.ds_kind.specs.Left.{left_after}
use Rattle.ds_retry.specs.Counted.{Counts}
use Rattle.ds_rule.specs.declared.event.Event.{Event}
use Rattle.ds_rule.specs.declared.journal.JournalStep.{JournalStep}
use Rattle.ds_rule.specs.Clauses.{Stays, Steps, IsLost, IsRefused, and_step}
use Rattle.ds_rule.specs.Journal.{Moved}
use Rattle.ds_rule.specs.Moves.{IsMove}
use Rattle.ds_rule.specs.Path.{IsHigh, LosesOnly}
use Rattle.ds_rule.specs.Pieces.{Each}
use Rattle.ds_flight.specs.Causes.{AllGoOn, GoesOn}
use Rattle.ds_flight.specs.Counting.{counted, counted_step}
use Rattle.ds_flight.specs.Ends.{NoneEnds, ends_flight}
use Rattle.ds_flight.specs.Flights.{Flight, AllOfPart, StepOfPart}
use Rattle.ds_flight.specs.Goes.{Goes, StepGoes, known_after, descs_of, told_by}
use Rattle.ds_flight.specs.Left.{arrived, arrived_by, block_by, blocks_of, failed_by, failures, left_over, replies_by}
use Rattle.ds_flight.specs.Picks.{sends_by, sends_of}
use Rattle.ds_flight.specs.Ran.{AreKnown, Course, Ran, RefusesOnly}

-- ---- folds over moves and then a step

pub step-known : (known : List RangeDesc) (ms : List Event) (s : JournalStep) → known_after known (and_step ms s) ≡ known ++ descs_of (told_by s)
step-known known [] s = refl
step-known known (m ∷ ms) s = step-known known ms s

pub step-left : (left : Option ℕ) (ms : List Event) (s : JournalStep) → left_over left (and_step ms s) ≡ left_after left (replies_by s)
step-left left [] s = refl
step-left left (m ∷ ms) s = step-left left ms s

pub step-counted : (c : Counts) (ms : List Event) (s : JournalStep) → counted c (and_step ms s) ≡ counted_step c s
step-counted c [] s = refl
step-counted c (m ∷ ms) s = step-counted c ms s

pub step-blocks : (ms : List Event) (s : JournalStep) → blocks_of (and_step ms s) ≡ block_by s
step-blocks [] s = append_nil (block_by s)
step-blocks (m ∷ ms) s = step-blocks ms s

pub step-arrived : (ms : List Event) (s : JournalStep) → arrived (and_step ms s) ≡ arrived_by s
step-arrived [] s = append_nil (arrived_by s)
step-arrived (m ∷ ms) s = step-arrived ms s

pub step-sends : (ms : List Event) (s : JournalStep) → sends_of (and_step ms s) ≡ sends_by s
step-sends [] s = append_nil (sends_by s)
step-sends (m ∷ ms) s = step-sends ms s

pub step-failures : (ms : List Event) (s : JournalStep) → failures (and_step ms s) ≡ failed_by s
step-failures [] s = append_nil (failed_by s)
step-failures (m ∷ ms) s = step-failures ms s

step-high : (floor : ℕ) (ms : List Event) (s : JournalStep) → Each (IsMove floor) ms → Each (IsHigh floor) (and_step ms s)
step-high floor [] s all = (tt, tt)
step-high floor (m ∷ ms) s all = (all.0, step-high floor ms s all.1)

step-of : (f : Flight) (left : Option ℕ) (ms : List Event) (s : JournalStep) → StepOfPart f left s → AllOfPart f left (and_step ms s)
step-of f left [] s of = (of, tt)
step-of f left (m ∷ ms) s of = step-of f left ms s of

step-goes : (whole : Option Extent) (known : List RangeDesc) (ms : List Event) (s : JournalStep) → StepGoes whole known s → Goes whole known (and_step ms s)
step-goes whole known [] s goes = (goes, tt)
step-goes whole known (m ∷ ms) s goes = step-goes whole known ms s goes

step-on : (c : Counts) (ms : List Event) (s : JournalStep) → GoesOn c → AllGoOn c (and_step ms s)
step-on c [] s on = (on, tt)
step-on c (m ∷ ms) s on = step-on c ms s on

step-loses : (r : Type 0) (ms : List Event) (s : JournalStep) → (IsLost s → r) → Each (LosesOnly r) (and_step ms s)
step-loses r [] s l = (l, tt)
step-loses r (m ∷ ms) s l = (tt, step-loses r ms s l)

step-refuses : (r : Type 0) (ms : List Event) (s : JournalStep) → (IsRefused s → r) → Each (RefusesOnly r) (and_step ms s)
step-refuses r [] s l = (l, tt)
step-refuses r (m ∷ ms) s l = (tt, step-refuses r ms s l)

pub step-unended : (ms : List Event) (s : JournalStep) → ends_flight s ≡ false → NoneEnds (and_step ms s)
step-unended [] s ends = (ends, tt)
step-unended (m ∷ ms) s ends = (tt, step-unended ms s ends)

-- ---- folds over moves alone

pub moves-unended : (ms : List Event) → NoneEnds (map Moved ms)
moves-unended [] = tt
moves-unended (m ∷ ms) = (tt, moves-unended ms)

moves-on : (c : Counts) (ms : List Event) → AllGoOn c (map Moved ms)
moves-on c [] = tt
moves-on c (m ∷ ms) = moves-on c ms

pub moves-known : (known : List RangeDesc) (ms : List Event) → known_after known (map Moved ms) ≡ known
moves-known known [] = refl
moves-known known (m ∷ ms) = moves-known known ms

moves-counted : (c : Counts) (ms : List Event) → counted c (map Moved ms) ≡ c
moves-counted c [] = refl
moves-counted c (m ∷ ms) = moves-counted c ms

moves-high : (floor : ℕ) (ms : List Event) → Each (IsMove floor) ms → Each (IsHigh floor) (map Moved ms)
moves-high floor [] all = tt
moves-high floor (m ∷ ms) all = (all.0, moves-high floor ms all.1)

moves-of : (f : Flight) (left : Option ℕ) (ms : List Event) → AllOfPart f left (map Moved ms)
moves-of f left [] = tt
moves-of f left (m ∷ ms) = moves-of f left ms

moves-go : (whole : Option Extent) (known : List RangeDesc) (ms : List Event) → Goes whole known (map Moved ms)
moves-go whole known [] = tt
moves-go whole known (m ∷ ms) = moves-go whole known ms

moves-lose : (r : Type 0) (ms : List Event) → Each (LosesOnly r) (map Moved ms)
moves-lose r [] = tt
moves-lose r (m ∷ ms) = (tt, moves-lose r ms)

moves-refuse : (r : Type 0) (ms : List Event) → Each (RefusesOnly r) (map Moved ms)
moves-refuse r [] = tt
moves-refuse r (m ∷ ms) = (tt, moves-refuse r ms)

-- ---- one call of the wire

-- a step of the part that goes where it is known to, and is counted, while there are tries left
pub ran-step :
    (f : Flight) (known : List RangeDesc) (left : Option ℕ) (a b : Course) (s : JournalStep)
    → GoesOn a.counts → StepOfPart f left s → StepGoes f.whole known s → b.counts ≡ counted_step a.counts s
    → (AreKnown known a.entries → AreKnown (known ++ descs_of (told_by s)) b.entries)
    → (x : Steps a.wire b.wire s) → Ran f known left a b (and_step x.moves s)
ran-step f known left a b s on of goes counts entries x = record {
  grown = x.grown;
  runs = x.runs;
  floor = x.floor;
  block = x.block;
  high = step-high a.wire.floor x.moves s x.above;
  of = step-of f left x.moves s of;
  goes = step-goes f.whole known x.moves s goes;
  counts = counts ∙ sym (step-counted a.counts x.moves s);
  went_on = step-on a.counts x.moves s on;
  refused = x.refused;
  lost = x.lost;
  refuses = step-refuses (Rose a.wire.refused b.wire.refused) x.moves s x.refuses;
  loses = step-loses (Rose a.wire.lost b.wire.lost) x.moves s x.loses;
  entries = λ h. subst (λ ds. AreKnown ds b.entries) (sym (step-known known x.moves s)) (entries h);
}

-- the wire wanted memory
pub ran-stays :
    (f : Flight) (known : List RangeDesc) (left : Option ℕ) (a b : Course) → b.counts ≡ a.counts
    → (AreKnown known a.entries → AreKnown known b.entries)
    → (x : Stays a.wire b.wire) → Ran f known left a b (map Moved x.moves)
ran-stays f known left a b counts entries x = record {
  grown = x.grown;
  runs = x.runs;
  floor = x.floor;
  block = x.block;
  high = moves-high a.wire.floor x.moves x.above;
  of = moves-of f left x.moves;
  goes = moves-go f.whole known x.moves;
  counts = counts ∙ sym (moves-counted a.counts x.moves);
  went_on = moves-on a.counts x.moves;
  refused = x.refused;
  lost = x.lost;
  refuses = moves-refuse (Rose a.wire.refused b.wire.refused) x.moves;
  loses = moves-lose (Rose a.wire.lost b.wire.lost) x.moves;
  entries = λ h. subst (λ ds. AreKnown ds b.entries) (sym (moves-known known x.moves)) (entries h);
}
