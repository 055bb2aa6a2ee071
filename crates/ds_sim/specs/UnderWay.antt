-- A block that is under way: which of its events were made, and what its next step may find.
use Rattle.std.specs.Prelude.{◌≡◌, ℕ, ◌+◌, ◌<◌, ◌≤◌, ◌^◌, Bool, true, false, List, [], ◌∷◌, ◌++◌, length, nat_le, take, drop}
use Rattle.ds_rule.specs.declared.event.Event.{Event}
use Rattle.ds_rule.specs.declared.event.Timed.{Timed}
use Rattle.ds_rule.specs.declared.journal.JournalStep.{JournalStep}
use Rattle.ds_rule.specs.Blocks.{least_from, never_fall, woven}
use Rattle.ds_rule.specs.Journal.{Did, Moved}
use Rattle.ds_rule.specs.Moves.{IsMove}
use Rattle.ds_rule.specs.Pieces.{Each}

-- the events of the block that were made and those still to come, its steps so far, the stamp that its foreign writes lie
-- above, and how many events were made since the cluster began
pub record UnderWay : Type 0 where
  pub made : List Timed
  pub coming : List Timed
  pub steps : List JournalStep
  pub floor : ℕ
  pub count : ℕ

-- so many of these events were made
abbrev pub under_way : ℕ → List Timed → List JournalStep → ℕ → ℕ → UnderWay
under_way n events steps floor count = record { made = take n events; coming = drop n events; steps = steps; floor = floor; count = count }

-- the number of the next step
abbrev pub next_number : List JournalStep → ℕ
next_number ss = 1 + length ss

-- the first of these is due before step n
abbrev pub is_first_due : ℕ → List Timed → Bool
is_first_due n [] = false
is_first_due n (t ∷ ts) = nat_le t.at n

-- an event is due before the next step
abbrev pub is_due : UnderWay → Bool
is_due u = is_first_due (next_number u.steps) u.coming

-- the events that were made were due before the next step, and those to come before none so far; they rise by step, are ones
-- that a wire may make by itself, and can all be counted
pub record IsUnderWay (u : UnderWay) : Type 0 where
  pub made : Each (λ t. t.at ≤ next_number u.steps) u.made
  pub coming : never_fall (least_from 1 u.steps) u.coming ≡ true
  pub moves : Each (λ t. IsMove u.floor t.event) u.coming
  pub fits : u.count + length u.coming < 2 ^ 64

-- the event is the next of the block: it is the first that is still to come
pub record IsNext (e : Event) (u : UnderWay) : Type 0 where
  pub first : Timed
  pub rest : List Timed
  pub coming : u.coming ≡ first ∷ rest
  pub event : e ≡ first.event
  pub move : IsMove u.floor e
  pub after : woven 1 (u.made ++ first ∷ []) u.steps ≡ woven 1 u.made u.steps ++ Moved e ∷ []

-- the next event was made
abbrev pub passed_by : List Timed → UnderWay → UnderWay
passed_by [] u = u
passed_by (t ∷ ts) u = record u { made = u.made ++ t ∷ []; coming = ts; count = u.count + 1 }

abbrev pub passed : UnderWay → UnderWay
passed u = passed_by u.coming u

-- the step is noted, at the end of what happened
pub record Notes (s : JournalStep) (u v : UnderWay) : Type 0 where
  pub is : v ≡ record u { steps = u.steps ++ s ∷ [] }
  pub grown : woven 1 v.made v.steps ≡ woven 1 u.made u.steps ++ Did s ∷ []
