-- What a search for a route did and found.
use Rattle.std.specs.Prelude.{◌≡◌, ℕ, false, List, [], Option}
use Rattle.ds_desc.specs.declared.desc.RangeDesc.{RangeDesc}
use Rattle.ds_cache.specs.Entries.{Entry}
use Rattle.ds_iter.specs.declared.sought.Sought.{Sought}
use Rattle.ds_iter.specs.declared.sought.Sought.TheVariants.{Found, Lost}
use Rattle.ds_retry.specs.Counted.{Counts, one_lost}
use Rattle.ds_rule.specs.Clauses.{Stands}
use Rattle.ds_rule.specs.Journal.{Happening}
use Rattle.ds_rule.specs.Pieces.{IsOneOf}
use Rattle.ds_flight.specs.Flights.{Flight}
use Rattle.ds_flight.specs.Goes.{known_after}
use Rattle.ds_flight.specs.Left.{arrived, blocks_of, failures, left_over}
use Rattle.ds_flight.specs.Picks.{sends_of}
use Rattle.ds_flight.specs.Ran.{Course, Ran}

abbrev pub course : Stands → List Entry → Counts → Course
course w es c = record { wire = w; entries = es; counts = c }

-- nothing was sent, so that nothing was answered Done or failed
pub record Quiet (hs : List Happening) : Type 0 where
  pub sends : sends_of hs ≡ []
  pub blocks : blocks_of hs ≡ []
  pub arrived_none : arrived hs ≡ []
  pub none_failed : failures hs ≡ []
  pub left : (l : Option ℕ) → left_over l hs ≡ l

-- at most lookups were made, which take no pick
pub record Searched (f : Flight) (known : List RangeDesc) (left : Option ℕ) (a b : Course) (hs : List Happening) : Type 0 where
  pub ran : Ran f known left a b hs
  pub quiet : Quiet hs
  pub ahead : b.wire.ahead ≡ a.wire.ahead

-- what was sought is known then, or one lookup was lost
abbrev pub SearchedTo : Flight → List RangeDesc → Option ℕ → Counts → Stands → Stands → List Entry → List Entry → Sought → Type 0
SearchedTo f known left c a b es fs (Found i t) = (hs : List Happening) × Searched f known left (course a es c) (course b fs c) hs × IsOneOf i.desc (known_after known hs)
SearchedTo f known left c a b es fs Lost = (hs : List Happening) × Searched f known left (course a es c) (course b fs (one_lost false c)) hs
