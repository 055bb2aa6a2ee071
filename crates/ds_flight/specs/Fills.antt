-- What becomes of the work while its rests are routed.
use Rattle.std.specs.Prelude.{◌≡◌, ◌⊎◌, ℕ, ◌+◌, ◌-◌, ◌<◌, ◌≤◌, false, List, [], ◌∷◌, length, Option, None, refl}
use Rattle.std.specs.List.{position}
use Rattle.std.proofs.Common.{inr}
use Rattle.ds_base.specs.Order.{Extent}
use Rattle.ds_base.specs.declared.value.Dir.{Dir}
use Rattle.ds_desc.specs.declared.desc.RangeDesc.{RangeDesc}
use Rattle.ds_kind.specs.declared.batch.Item.{Item}
use Rattle.ds_kind.specs.declared.batch.Part.{Part}
use Rattle.ds_cover.specs.Measures.{left_in}
use Rattle.ds_retry.specs.Counted.{Counts, first_counts, one_lost}
use Rattle.ds_rule.specs.Journal.{Happening}
use Rattle.ds_rule.specs.Pieces.{IsOneOf}
use Rattle.ds_flight.specs.Causes.{GoesOn, LiesApart, failed_sum}
use Rattle.ds_flight.specs.Flights.{Flight}
use Rattle.ds_flight.specs.Goes.{known_after, WholeHolds}
use Rattle.ds_flight.specs.Places.{is_rest, waiting}
use Rattle.ds_flight.specs.Ran.{AreKnown, Course}
use Rattle.ds_flight.specs.Searches.{Searched}
use Rattle.ds_flight.specs.Works.{work_left, Underway}
use Rattle.ds_flight.specs.declared.fill.Filling.{Filling}
use Rattle.ds_flight.specs.declared.fill.Filling.TheVariants.{On, NotWhole, Spent}
use Rattle.ds_flight.specs.declared.work.Task.{Task}
use Rattle.ds_flight.specs.declared.work.Task.TheVariants.{Rest, Routed}

-- a part that goes in this direction, of which this span, if any, must lie in one range
pub record FliesSo (d : Dir) (whole : Option Extent) (f : Flight) : Type 0 where
  pub dir : d ≡ f.part.dir
  pub whole_is : whole ≡ f.whole
  pub holds : WholeHolds f.whole f.part.items

-- a rest of the work is left
pub record LeavesRest (f : Flight) (known : List RangeDesc) (done : List (List Item)) : Type 0 where
  pub rest : Part
  pub work : List Task
  pub underway : Underway f known done (Rest rest ∷ work)

-- the work that is left, or why routing ended
abbrev pub FillingFits : Flight → List RangeDesc → List (List Item) → List Task → Filling → Type 0
FillingFits f known done new On = Underway f known done new
FillingFits f known done new (NotWhole desc) = IsOneOf desc known × LiesApart f f.whole desc × LeavesRest f known done
FillingFits f known done new Spent = LeavesRest f known done

-- rests of the work were routed, for any part that flies so, whatever is known and done of it
abbrev pub RestsRouted : Dir → Option Extent → Course → Course → List Task → List Task → Filling → Type 0
RestsRouted d whole a b old new r =
    (f : Flight) (known : List RangeDesc) (left : Option ℕ) (done : List (List Item)) → FliesSo d whole f → AreKnown known a.entries → Underway f known done old
    → (hs : List Happening) × Searched f known left a b hs × FillingFits f (known_after known hs) done new r

-- what was done where memory was wanted
abbrev pub RestsSought : Dir → Option Extent → Course → Course → List Task → Type 0
RestsSought d whole a b old =
    (f : Flight) (known : List RangeDesc) (left : Option ℕ) (done : List (List Item)) → FliesSo d whole f → AreKnown known a.entries → Underway f known done old
    → (hs : List Happening) × Searched f known left a b hs

-- whether there are tries left
abbrev pub FillingCounts : Counts → Filling → Type 0
FillingCounts c On = GoesOn c
FillingCounts c (NotWhole desc) = GoesOn c
FillingCounts c Spent = failed_sum c ≡ c.budget

-- each rest has something left, in this direction
abbrev pub IsReady : Dir → Task → Type 0
IsReady d (Rest c) = (0 < length c.items) × (c.dir ≡ d)
IsReady d (Routed r) = Unit {0}

abbrev pub tries_left : Counts → ℕ
tries_left c = c.budget - failed_sum c

-- how much is still to be routed, in numbers of keys
abbrev pub rest_left : Task → ℕ
rest_left (Rest c) = left_in c.items
rest_left (Routed r) = 0

abbrev pub to_route : List Task → ℕ
to_route [] = 0
to_route (t ∷ ts) = rest_left t + to_route ts

-- no try is won, and no work is added
pub record AddsNone (c d : Counts) (old new : List Task) : Type 0 where
  pub tries : tries_left d ≤ tries_left c
  pub work : work_left new ≤ work_left old

-- there are fewer tries, or less is to be routed
pub record Lessens (c d : Counts) (old new : List Task) : Type 0 where
  pub adds_none : AddsNone c d old new
  pub less : tries_left d + to_route new < tries_left c + to_route old

abbrev pub LessensIfOn : Counts → Counts → List Task → List Task → Filling → Type 0
LessensIfOn c d old new On = Lessens c d old new
LessensIfOn c d old new (NotWhole desc) = Unit {0}
LessensIfOn c d old new Spent = Unit {0}

-- one piece more waits at most
abbrev pub AddsOne : List Task → List Task → Type 0
AddsOne old new = waiting new ≤ waiting old + 1

-- so many pieces wait, or there are no more rests
abbrev pub IsFilled : ℕ → List Task → Type 0
IsFilled most work = (most ≤ waiting work) ⊎ (position is_rest work ≡ None)

-- what is routed and what is left when it ends well; where no more waited than may, no more do
pub record Fills (most : ℕ) (c d : Counts) (old new : List Task) : Type 0 where
  pub adds_none : AddsNone c d old new
  pub filled : IsFilled most new
  pub few : waiting old ≤ most → waiting new ≤ most

abbrev pub FilledTo : ℕ → Counts → Counts → List Task → List Task → Filling → Type 0
FilledTo most c d old new On = Fills most c d old new
FilledTo most c d old new (NotWhole desc) = Unit {0}
FilledTo most c d old new Spent = Unit {0}

-- a lost lookup is a try less
one_try_less : tries_left (one_lost false (first_counts 3)) ≡ 2
one_try_less = refl

nothing_to_fill : IsFilled 16 []
nothing_to_fill = inr refl
