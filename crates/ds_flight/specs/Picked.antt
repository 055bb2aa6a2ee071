-- Which of a part's pieces each pick sent.
use Rattle.std.specs.Prelude.{◌≡◌, ℕ, min, Bool, true, List, [], ◌∷◌, length, Option, Some, None, slice_get, refl}
use Rattle.std.specs.List.{remove}
use Rattle.ds_base.specs.Order.{key_lt}
use Rattle.ds_base.specs.declared.value.Dir.{Dir}
use Rattle.ds_base.specs.declared.value.Dir.TheVariants.{Forward, Reverse}
use Rattle.ds_kind.specs.declared.batch.Item.{Item}
use Rattle.ds_kind.specs.declared.request.Request.TheVariants.{Get}
use Rattle.ds_cover.specs.Cuts.{seek_key}
use Rattle.ds_retry.specs.declared.outcome.PartOutcome.{PartOutcome}
use Rattle.ds_retry.specs.declared.outcome.PartOutcome.TheVariants as Outcome
use Rattle.ds_rule.specs.declared.journal.JournalStep.{JournalStep}
use Rattle.ds_rule.specs.declared.journal.JournalStep.TheVariants.{Look, Send}
use Rattle.ds_rule.specs.Clauses.{later_picks, next_pick}
use Rattle.ds_rule.specs.Journal.{Happening}
use Rattle.ds_rule.specs.Pieces.{Each}
use Rattle.ds_flight.specs.Flights.{Flight}
use Rattle.ds_flight.specs.Left.{blocks_of}
use Rattle.ds_flight.specs.Picks.{sends_of, IsDoneAnswer}

-- ---- pieces by the keys at which they are sought

abbrev pub comes_first : Dir → List ℕ → List ℕ → Bool
comes_first Forward k l = key_lt k l
comes_first Reverse k l = key_lt l k

-- the first block is met before the second
pub record IsMetBefore (d : Dir) (b c : List Item) : Type 0 where
  pub first : List ℕ
  pub later : List ℕ
  pub first_is : seek_key d b ≡ Some first
  pub later_is : seek_key d c ≡ Some later
  pub before : comes_first d first later ≡ true

-- each block is met before those after it
abbrev pub InTurn : Dir → List (List Item) → Type 0
InTurn d [] = Unit {0}
InTurn d (b ∷ bs) = Each (IsMetBefore d b) bs × InTurn d bs

-- ---- picks

-- how many pieces may wait at once: one under a limit
abbrev pub most_of : Option ℕ → ℕ
most_of None = 16
most_of (Some rest) = 1

-- the place of the next pick among the pieces that are left, of which so many wait
abbrev pub picked_place : ℕ → List ℕ → List (List Item) → ℕ
picked_place most picks blocks = next_pick picks (min most (length blocks))

-- one after another each pick took one of these blocks, until none was left
abbrev pub TakenBy : ℕ → List ℕ → List (List Item) → List (List Item) → Type 0
TakenBy most picks blocks [] = blocks ≡ []
TakenBy most picks blocks (b ∷ bs) = (slice_get blocks (picked_place most picks blocks) ≡ Some b) × TakenBy most (later_picks picks) (remove blocks (picked_place most picks blocks)) bs

-- the blocks that were done are the part's in turn, each taken by its pick
pub record Picked (f : Flight) (left : Option ℕ) (picks : List ℕ) (hs : List Happening) : Type 0 where
  pub blocks : List (List Item)
  pub turn : InTurn f.part.dir blocks
  pub taken : TakenBy (most_of left) picks blocks (blocks_of hs)

abbrev pub IsDoneStep : JournalStep → Type 0
IsDoneStep (Look k d l) = Unit {0}
IsDoneStep (Send n p a) = IsDoneAnswer a

-- each send was answered Done
abbrev pub AllDone : List Happening → Type 0
AllDone hs = Each IsDoneStep (sends_of hs)

-- where a part was answered and no piece was sent twice
abbrev pub PickedIfDone : Flight → Option ℕ → List ℕ → List Happening → PartOutcome → Type 0
PickedIfDone f left picks hs (Outcome.Done replies rest) = AllDone hs → Picked f left picks hs
PickedIfDone f left picks hs (Outcome.NotWhole desc) = Unit {0}
PickedIfDone f left picks hs (Outcome.Failed failure) = Unit {0}
PickedIfDone f left picks hs (Outcome.Ambiguous lost) = Unit {0}
PickedIfDone f left picks hs (Outcome.Exhausted refused lost) = Unit {0}

-- gets of a and b, of which the pick 3 takes the second first

abbrev get_of : ℕ → List Item
get_of k = record { pos = 0; seq = record { 0 = 0 }; request = Get (record { key = k ∷ [] }) } ∷ []

in_turn : InTurn Forward (get_of 97 ∷ get_of 98 ∷ [])
in_turn = ((record { first = 97 ∷ []; later = 98 ∷ []; first_is = refl; later_is = refl; before = refl }, tt), (tt, tt))

the_second_first : TakenBy 16 (3 ∷ []) (get_of 97 ∷ get_of 98 ∷ []) (get_of 98 ∷ get_of 97 ∷ [])
the_second_first = (refl, (refl, refl))

-- one at a time, whatever the picks
one_at_a_time : TakenBy 1 (3 ∷ []) (get_of 97 ∷ get_of 98 ∷ []) (get_of 97 ∷ get_of 98 ∷ [])
one_at_a_time = (refl, (refl, refl))
