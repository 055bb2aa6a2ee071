-- What the flights of a batch's parts did, one after another.
use Rattle.std.specs.Prelude.{◌≡◌, ◌⊎◌, ℕ, ◌<◌, ◌≤◌, true, false, List, [], ◌++◌, length, Option, Some, None}
use Rattle.std.specs.List.{list_any}
use Rattle.ds_base.specs.Counts.{Rose}
use Rattle.ds_base.specs.Order.{Extent}
use Rattle.ds_desc.specs.declared.desc.RangeDesc.{RangeDesc}
use Rattle.ds_kind.specs.Asks.{is_end}
use Rattle.ds_kind.specs.Parts.{all_fit, all_items, requests_of}
use Rattle.ds_kind.specs.declared.batch.Head.{Head}
use Rattle.ds_kind.specs.declared.batch.Part.{Part}
use Rattle.ds_kind.specs.declared.reply.Reply.{Reply}
use Rattle.ds_cover.specs.Items.{AreProper, PositionsRise}
use Rattle.ds_retry.specs.Counted.{Counts}
use Rattle.ds_retry.specs.declared.outcome.PartOutcome.{PartOutcome}
use Rattle.ds_retry.specs.declared.outcome.PartOutcome.TheVariants as Outcome
use Rattle.ds_rule.specs.Asking.{Asking}
use Rattle.ds_rule.specs.Journal.{Accepted, Happening, Runs, accepted}
use Rattle.ds_rule.specs.Path.{IsHigh, LosesOnly}
use Rattle.ds_rule.specs.Pieces.{Each, IsOneOf, parts_apart}
use Rattle.ds_rule.specs.Sending.{AllOf}
use Rattle.ds_rule.specs.Whole.{IsOfPart}
use Rattle.ds_flight.specs.Causes.{AllGoOn, GoesOn, IsAmbiguous, IsExhausted, IsFailed, LiesApart}
use Rattle.ds_flight.specs.Counting.{counted}
use Rattle.ds_flight.specs.Ends.{NoneEnds}
use Rattle.ds_flight.specs.Flights.{Flight}
use Rattle.ds_flight.specs.Flown.{Flown}
use Rattle.ds_flight.specs.Goes.{Goes, WholeHolds, known_after}
use Rattle.ds_flight.specs.Left.{failures}
use Rattle.ds_flight.specs.Picks.{TookOneMore, TookPicks}
use Rattle.ds_flight.specs.Ran.{AreKnown, Course, RefusesOnly}
use Rattle.ds_mean.specs.InTurn.{AllInTurn, IsLeft, items_of}
use Rattle.ds_mean.specs.Send.{CameWhole}

-- where some span must lie in one range, the piece of each send is a whole part of the batch
abbrev pub OfParts : Option Extent → Asking → List Happening → Type 0
OfParts None q hs = Unit {0}
OfParts (Some whole) q hs = Each (IsOfPart q) hs

-- what happened between two states, where so much was accepted before and these descriptors were known
pub record BatchRan (q : Asking) (whole : Option Extent) (got : List Accepted) (known : List RangeDesc) (a b : Course) (hs : List Happening) : Type 0 where
  -- it is what the wire added, and a way of the world
  pub grown : b.wire.past ≡ a.wire.past ++ hs
  pub runs : Runs a.wire.world hs b.wire.world
  pub floor : b.wire.floor ≡ a.wire.floor
  pub block : b.wire.block ≡ a.wire.block
  pub high : Each (IsHigh a.wire.floor) hs
  -- each step is of the batch, pieces come in turn at each of their keys, and each send goes where a known descriptor says
  pub of : AllOf q got hs
  pub turns : AllInTurn q.items got hs
  pub goes : Goes None known hs
  -- where a span must lie in one range, each piece is a part
  pub parts : OfParts whole q hs
  -- every refusal and loss is counted, and comes only where the wire's own count rose; there were tries left before each step
  pub counts : b.counts ≡ counted a.counts hs
  pub went_on : AllGoOn a.counts hs
  pub refused : a.wire.refused ≤ b.wire.refused
  pub lost : a.wire.lost ≤ b.wire.lost
  pub refuses : Each (RefusesOnly (Rose a.wire.refused b.wire.refused)) hs
  pub loses : Each (LosesOnly (Rose a.wire.lost b.wire.lost)) hs
  -- the cache has descriptors that are known then
  pub entries : AreKnown known a.entries → AreKnown (known_after known hs) b.entries

-- ---- why the parts ended so

-- a known descriptor contains the first key of one of the batch's parts, and doesn't hold the span that must lie in one range
pub record BatchApart (q : Asking) (whole : Option Extent) (known : List RangeDesc) (desc : RangeDesc) : Type 0 where
  pub is_known : IsOneOf desc known
  pub flight : Flight
  pub part : IsOneOf flight.part (parts_apart q.items)
  pub apart : LiesApart flight whole desc

-- something of the batch is left
abbrev pub BatchLeft : Asking → List Happening → Type 0
BatchLeft q hs = IsLeft q.items (items_of (accepted hs))

abbrev pub BatchEnds : Asking → Option Extent → List RangeDesc → Counts → List Happening → PartOutcome → Type 0
BatchEnds q whole known c hs (Outcome.Done replies rest) = (failures hs ≡ []) × NoneEnds hs × GoesOn c × CameWhole q hs replies
BatchEnds q whole known c hs (Outcome.NotWhole desc) = (failures hs ≡ []) × NoneEnds hs × GoesOn c × BatchApart q whole (known_after known hs) desc × BatchLeft q hs
BatchEnds q whole known c hs (Outcome.Failed f) = IsFailed c hs f × BatchLeft q hs
BatchEnds q whole known c hs (Outcome.Ambiguous lost) = IsAmbiguous c hs lost × BatchLeft q hs
BatchEnds q whole known c hs (Outcome.Exhausted refused lost) = IsExhausted c hs refused lost × BatchLeft q hs

-- the batch's parts were flown one after another, and ended so
pub record BatchEnded (q : Asking) (whole : Option Extent) (known : List RangeDesc) (a b : Course) (hs : List Happening) (o : PartOutcome) : Type 0 where
  pub ran : BatchRan q whole [] known a b hs
  -- each send took a pick
  pub picks : TookPicks a.wire.ahead b.wire.ahead hs
  pub ends : BatchEnds q whole known b.counts hs o

abbrev pub IsNotDone : PartOutcome → Type 0
IsNotDone (Outcome.Done replies rest) = ⊥
IsNotDone (Outcome.NotWhole desc) = Unit {0}
IsNotDone (Outcome.Failed f) = Unit {0}
IsNotDone (Outcome.Ambiguous lost) = Unit {0}
IsNotDone (Outcome.Exhausted refused lost) = Unit {0}

-- ---- parts that are flown

-- a part can be flown, where this span, if any, must lie in one range
pub record IsFlyable (whole : Option Extent) (p : Part) : Type 0 where
  pub some : 0 < length p.items
  pub proper : AreProper p.items
  pub rise : PositionsRise p.items
  pub holds : WholeHolds whole p.items

-- they are the batch's parts, asked by its head; the batch has no limit and ends no transaction
pub record ArePartsOf (q : Asking) (head : Head) (parts : List Part) : Type 0 where
  pub head_is : head ≡ q.head
  pub unlimited : q.head.left ≡ None
  pub parts_are : parts ≡ parts_apart q.items
  pub joined : all_items parts ≡ q.items
  pub rise : PositionsRise q.items
  pub fit : Each (λ p. all_fit (requests_of p.items) ≡ true) parts
  pub endless : list_any is_end (requests_of q.items) ≡ false

-- for the batch whose parts they are, whatever is known beside the cache's descriptors
abbrev pub PartsFlown : Head → Option Extent → List Part → Course → Course → PartOutcome → Type 0
PartsFlown head whole parts a b o =
    (q : Asking) (known : List RangeDesc) → ArePartsOf q head parts → AreKnown known a.entries → (hs : List Happening) × BatchEnded q whole known a b hs o

-- what happened before memory was wanted: nothing ended a flight, tries are left, and each send took a pick, also one that never came
pub record BatchBegun (q : Asking) (whole : Option Extent) (known : List RangeDesc) (a b : Course) (hs : List Happening) : Type 0 where
  pub ran : BatchRan q whole [] known a b hs
  pub picks : TookPicks a.wire.ahead b.wire.ahead hs ⊎ TookOneMore a.wire.ahead b.wire.ahead hs
  pub unended : NoneEnds hs
  pub goes_on : GoesOn b.counts

-- memory was wanting
abbrev pub PartsBegan : Head → Option Extent → List Part → Course → Course → Type 0
PartsBegan head whole parts a b =
    (q : Asking) (known : List RangeDesc) → ArePartsOf q head parts → AreKnown known a.entries → (hs : List Happening) × BatchBegun q whole known a b hs

-- one part more was flown: its replies came behind the others, or it ended so
abbrev pub NextFlown : Flight → Course → Course → List Reply → List Reply → Option PartOutcome → Type 0
NextFlown f a b us vs None = (more : List Reply) × (rest : Option ℕ) × (vs ≡ us ++ more) × Flown f None a b (Outcome.Done more rest)
NextFlown f a b us vs (Some o) = IsNotDone o × Flown f None a b o
