-- What the search for the route of a rest comes to.
use Rattle.std.specs.Prelude.{◌≡◌, ℕ, true, false, List, Option, Some}
use Rattle.ds_base.specs.declared.value.Dir.{Dir}
use Rattle.ds_desc.specs.Contains.{contains}
use Rattle.ds_desc.specs.declared.desc.RangeDesc.{RangeDesc}
use Rattle.ds_kind.specs.declared.batch.Item.{Item}
use Rattle.ds_cover.specs.Cuts.{seek_key}
use Rattle.ds_retry.specs.Counted.{Counts, one_lost}
use Rattle.ds_rule.specs.Journal.{Happening}
use Rattle.ds_rule.specs.Pieces.{IsOneOf}
use Rattle.ds_flight.specs.Causes.{GoesOn, failed_sum}
use Rattle.ds_flight.specs.Flights.{Flight}
use Rattle.ds_flight.specs.Goes.{known_after}
use Rattle.ds_flight.specs.Ran.{AreKnown, Course}
use Rattle.ds_flight.specs.Searches.{Searched}
use Rattle.ds_flight.specs.declared.route.Routing.{Routing}
use Rattle.ds_flight.specs.declared.route.Routing.TheVariants.{Found, Again, Spent}

-- the route is by a descriptor that is known
abbrev pub RouteKnown : List RangeDesc → Routing → Type 0
RouteKnown known (Found i t) = IsOneOf i.desc known
RouteKnown known Again = Unit {0}
RouteKnown known Spent = Unit {0}

-- a search in this direction, for any part that goes so and whatever is known of the cache
abbrev pub RouteFound : Dir → Course → Course → Routing → Type 0
RouteFound d a b r =
    (f : Flight) (known : List RangeDesc) (left : Option ℕ) → d ≡ f.part.dir → AreKnown known a.entries
    → (hs : List Happening) × Searched f known left a b hs × RouteKnown (known_after known hs) r

abbrev pub RouteSought : Dir → Course → Course → Type 0
RouteSought d a b =
    (f : Flight) (known : List RangeDesc) (left : Option ℕ) → d ≡ f.part.dir → AreKnown known a.entries
    → (hs : List Happening) × Searched f known left a b hs

-- the route contains the key at which the items are sought
abbrev pub RouteContains : Dir → List Item → Routing → Type 0
RouteContains d items (Found i t) = (s : List ℕ) → seek_key d items ≡ Some s → contains d s i.desc.span ≡ true
RouteContains d items Again = Unit {0}
RouteContains d items Spent = Unit {0}

-- a lost lookup is counted
abbrev pub RouteCounts : Counts → Counts → Routing → Type 0
RouteCounts c d (Found i t) = d ≡ c
RouteCounts c d Again = (d ≡ one_lost false c) × GoesOn d
RouteCounts c d Spent = (d ≡ one_lost false c) × (failed_sum d ≡ d.budget)
