-- What a flight of a part comes to.
use Rattle.std.specs.Prelude.{◌⊎◌, ℕ, ◌<◌, List, [], ◌∷◌, ◌++◌, length, Option}
use Rattle.ds_base.specs.Order.{Extent}
use Rattle.ds_desc.specs.declared.desc.RangeDesc.{RangeDesc}
use Rattle.ds_kind.specs.declared.batch.Head.{Head}
use Rattle.ds_kind.specs.declared.batch.Item.{Item}
use Rattle.ds_kind.specs.declared.batch.Part.{Part}
use Rattle.ds_cover.specs.Coverage.{Covered}
use Rattle.ds_cover.specs.Items.{AreProper}
use Rattle.ds_retry.specs.declared.outcome.PartOutcome.{PartOutcome}
use Rattle.ds_retry.specs.declared.outcome.PartOutcome.TheVariants as Outcome
use Rattle.ds_rule.specs.Journal.{Happening}
use Rattle.ds_flight.specs.Causes.{GoesOn, PartCause}
use Rattle.ds_flight.specs.Covers.{AllCover}
use Rattle.ds_flight.specs.Ends.{NoneEnds}
use Rattle.ds_flight.specs.Flights.{Flight}
use Rattle.ds_flight.specs.Left.{blocks_of}
use Rattle.ds_flight.specs.Picked.{PickedIfDone}
use Rattle.ds_flight.specs.Picks.{TookOneMore, TookPicks}
use Rattle.ds_flight.specs.Ran.{AreKnown, Course, Ran}

abbrev pub flight : Part → Head → Option Extent → Flight
flight part head whole = record { part = part; head = head; whole = whole }

-- some block of the part isn't done
pub record SomeLeft (f : Flight) (hs : List Happening) : Type 0 where
  pub block : List Item
  pub others : List (List Item)
  pub some : 0 < length block
  pub proper : AreProper block
  pub covered : Covered f.part.items (blocks_of hs ++ block ∷ others)

-- unless the part was answered
abbrev pub IsUnfinished : Flight → List Happening → PartOutcome → Type 0
IsUnfinished f hs (Outcome.Done replies rest) = Unit {0}
IsUnfinished f hs (Outcome.NotWhole desc) = SomeLeft f hs
IsUnfinished f hs (Outcome.Failed failure) = SomeLeft f hs
IsUnfinished f hs (Outcome.Ambiguous lost) = SomeLeft f hs
IsUnfinished f hs (Outcome.Exhausted refused lost) = SomeLeft f hs

-- what happened, of which each piece is a block of the part; the picks that were used up, and what they took; and why it ended so
pub record Ended (f : Flight) (known : List RangeDesc) (left : Option ℕ) (a b : Course) (hs : List Happening) (o : PartOutcome) : Type 0 where
  pub ran : Ran f known left a b hs
  pub covers : AllCover f.part.items [] hs
  pub picks : TookPicks a.wire.ahead b.wire.ahead hs
  pub picked : PickedIfDone f left a.wire.ahead hs o
  pub cause : PartCause f known left b.counts hs o
  pub unfinished : IsUnfinished f hs o

-- the part was flown, with so much left of the limit, whatever is known beside the cache's descriptors
abbrev pub Flown : Flight → Option ℕ → Course → Course → PartOutcome → Type 0
Flown f left a b o = (known : List RangeDesc) → AreKnown known a.entries → (hs : List Happening) × Ended f known left a b hs o

-- what happened before memory was wanted: nothing ended the flight, tries are left, and each send took a pick, also one that never came
pub record Begun (f : Flight) (known : List RangeDesc) (left : Option ℕ) (a b : Course) (hs : List Happening) : Type 0 where
  pub ran : Ran f known left a b hs
  pub covers : AllCover f.part.items [] hs
  pub picks : TookPicks a.wire.ahead b.wire.ahead hs ⊎ TookOneMore a.wire.ahead b.wire.ahead hs
  pub unended : NoneEnds hs
  pub goes_on : GoesOn b.counts

-- memory was wanting
abbrev pub Began : Flight → Option ℕ → Course → Course → Type 0
Began f left a b = (known : List RangeDesc) → AreKnown known a.entries → (hs : List Happening) × Begun f known left a b hs
