-- What one call of a flight did, whether it ends well or wants memory.
use Rattle.std.specs.Prelude.{◌≡◌, ℕ, ◌≤◌, List, ◌++◌, Option}
use Rattle.ds_base.specs.Counts.{Rose}
use Rattle.ds_desc.specs.declared.desc.RangeDesc.{RangeDesc}
use Rattle.ds_cache.specs.Entries.{Entry}
use Rattle.ds_retry.specs.Counted.{Counts}
use Rattle.ds_rule.specs.Clauses.{Stands, IsRefused}
use Rattle.ds_rule.specs.Journal.{Happening, Moved, Did, Runs}
use Rattle.ds_rule.specs.Path.{IsHigh, LosesOnly}
use Rattle.ds_rule.specs.Pieces.{Each, IsOneOf}
use Rattle.ds_flight.specs.Causes.{AllGoOn}
use Rattle.ds_flight.specs.Counting.{counted}
use Rattle.ds_flight.specs.Flights.{Flight, AllOfPart}
use Rattle.ds_flight.specs.Goes.{Goes, known_after}

-- each entry's descriptor is one of these
abbrev pub AreKnown : List RangeDesc → List Entry → Type 0
AreKnown known es = Each (λ e. IsOneOf e.1.desc known) es

-- what a flight changes: the wire, the cache's entries, and the counts of failures
pub record Course : Type 0 where
  pub wire : Stands
  pub entries : List Entry
  pub counts : Counts

-- it was refused only where the count of refusals rose
abbrev pub RefusesOnly : Type 0 → Happening → Type 0
RefusesOnly rose (Moved e) = Unit {0}
RefusesOnly rose (Did s) = IsRefused s → rose

-- what happened between two states of a flight, where these descriptors were known and so much was left of the limit
pub record Ran (f : Flight) (known : List RangeDesc) (left : Option ℕ) (a b : Course) (hs : List Happening) : Type 0 where
  -- it is what the wire added, and a way of the world
  pub grown : b.wire.past ≡ a.wire.past ++ hs
  pub runs : Runs a.wire.world hs b.wire.world
  pub floor : b.wire.floor ≡ a.wire.floor
  pub block : b.wire.block ≡ a.wire.block
  pub high : Each (IsHigh a.wire.floor) hs
  -- each step is of the part, and each send goes where a known descriptor says
  pub of : AllOfPart f left hs
  pub goes : Goes f.whole known hs
  -- every refusal and loss is counted, and comes only where the wire's own count rose; there were tries left before each step
  pub counts : b.counts ≡ counted a.counts hs
  pub went_on : AllGoOn a.counts hs
  pub refused : a.wire.refused ≤ b.wire.refused
  pub lost : a.wire.lost ≤ b.wire.lost
  pub refuses : Each (RefusesOnly (Rose a.wire.refused b.wire.refused)) hs
  pub loses : Each (LosesOnly (Rose a.wire.lost b.wire.lost)) hs
  -- the cache has descriptors that are known then
  pub entries : AreKnown known a.entries → AreKnown (known_after known hs) b.entries
