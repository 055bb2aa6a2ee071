-- What a wire stands for, and what one call adds to it.
use Rattle.std.specs.Prelude.{◌≡◌, ℕ, ◌≤◌, ◌%◌, List, [], ◌∷◌, ◌++◌, map, Result, Ok, Err, refl}
use Rattle.std.specs.declared.alloc.AllocError.{AllocError}
use Rattle.ds_base.specs.declared.value.Dir.{Dir}
use Rattle.ds_base.specs.Counts.{Rose}
use Rattle.ds_desc.specs.declared.meta.Looked.{Looked}
use Rattle.ds_kind.specs.declared.batch.Piece.{Piece}
use Rattle.ds_rule.specs.declared.answer.Answer.{Answer}
use Rattle.ds_rule.specs.declared.answer.Answer.TheVariants.{Done, Failed, Refused, Lost}
use Rattle.ds_rule.specs.declared.journal.JournalStep.{JournalStep}
use Rattle.ds_rule.specs.declared.journal.JournalStep.TheVariants.{Look, Send}
use Rattle.ds_rule.specs.declared.event.Event.{Event}
use Rattle.ds_rule.specs.declared.event.Timed.{Timed}
use Rattle.ds_rule.specs.World.{World}
use Rattle.ds_rule.specs.Journal.{Happening, Moved, Did, Runs}
use Rattle.ds_rule.specs.Moves.{IsMove}
use Rattle.ds_rule.specs.Pieces.{Each}

-- what a wire stands for: the world as it is, all that happened so far, the floor that foreign writes stay above,
-- how many sends were refused and answers lost, the picks still to come, and the events of the block, those that were made
-- and those still to come: a wire's calls leave them as they were given
pub record Stands : Type 0 where
  pub world : World
  pub past : List Happening
  pub floor : ℕ
  pub refused : ℕ
  pub lost : ℕ
  pub ahead : List ℕ
  pub block : List Timed

-- the step's answer is a refusal
abbrev pub IsRefused : JournalStep → Type 0
IsRefused (Send n p (Refused r)) = Unit {0}
IsRefused (Send n p (Done rs)) = ⊥
IsRefused (Send n p (Failed f)) = ⊥
IsRefused (Send n p Lost) = ⊥
IsRefused (Look k d l) = ⊥

-- the step's answer is lost
abbrev pub IsLost : JournalStep → Type 0
IsLost (Send n p Lost) = Unit {0}
IsLost (Send n p (Done rs)) = ⊥
IsLost (Send n p (Failed f)) = ⊥
IsLost (Send n p (Refused r)) = ⊥
IsLost (Look k d Looked.Lost) = Unit {0}
IsLost (Look k d (Looked.Rows is)) = ⊥

abbrev pub and_step : List Event → JournalStep → List Happening
and_step moves s = map Moved moves ++ Did s ∷ []

-- a call that makes a step: moves that a wire may make, and then the step with its answer
pub record Steps (a b : Stands) (s : JournalStep) : Type 0 where
  pub moves : List Event
  pub above : Each (IsMove a.floor) moves
  pub grown : b.past ≡ a.past ++ and_step moves s
  pub runs : Runs a.world (and_step moves s) b.world
  pub floor : b.floor ≡ a.floor
  pub ahead : b.ahead ≡ a.ahead
  pub block : b.block ≡ a.block
  pub refused : a.refused ≤ b.refused
  pub lost : a.lost ≤ b.lost
  pub refuses : IsRefused s → Rose a.refused b.refused
  pub loses : IsLost s → Rose a.lost b.lost

-- a call that wanted memory: some of its moves, and no step
pub record Stays (a b : Stands) : Type 0 where
  pub moves : List Event
  pub above : Each (IsMove a.floor) moves
  pub grown : b.past ≡ a.past ++ map Moved moves
  pub runs : Runs a.world (map Moved moves) b.world
  pub floor : b.floor ≡ a.floor
  pub ahead : b.ahead ≡ a.ahead
  pub block : b.block ≡ a.block
  pub refused : a.refused ≤ b.refused
  pub lost : a.lost ≤ b.lost

abbrev pub Looks : Stands → Stands → List ℕ → Dir → Result Looked AllocError → Type 0
Looks a b k d (Ok l) = Steps a b (Look k d l)
Looks a b k d (Err e) = Stays a b

abbrev pub Sends : Stands → Stands → ℕ → Piece → Result Answer AllocError → Type 0
Sends a b n p (Ok r) = Steps a b (Send n p r)
Sends a b n p (Err e) = Stays a b

-- the next pick, and those after it
abbrev pub next_pick : List ℕ → ℕ → ℕ
next_pick [] waiting = 0
next_pick (p ∷ ps) waiting = p % waiting

abbrev pub later_picks : List ℕ → List ℕ
later_picks [] = []
later_picks (p ∷ ps) = ps

-- of the picks 2, 1 the first among three waiting is 2; without picks it is 0
third_of_three : next_pick (2 ∷ 1 ∷ []) 3 ≡ 2
third_of_three = refl

first_without_picks : next_pick [] 3 ≡ 0
first_without_picks = refl
