-- The block of a batch: its steps, and what happens beside them.
use Rattle.std.specs.Prelude.{◌≡◌, ℕ, ◌+◌, Bool, true, false, ◌&&◌, ◌==◌, List, [], ◌∷◌, ◌++◌, length, map, filter, find, nat_le, Option, Some, None, if◌then◌else◌}
use Rattle.ds_rule.specs.declared.event.Event.{Event}
use Rattle.ds_rule.specs.declared.event.Event.TheVariants.{LoseRequest, LoseReply, Copy}
use Rattle.ds_rule.specs.declared.event.Timed.{Timed}
use Rattle.ds_rule.specs.declared.journal.JournalStep.{JournalStep}
use Rattle.ds_rule.specs.Asking.{Asking}
use Rattle.ds_rule.specs.Journal.{Happening, Moved, Did, Passage, BothWays, RequestLost, ReplyLost, Accepted, accepted_by, IsAnswered, step_world}
use Rattle.ds_rule.specs.Moves.{moved}
use Rattle.ds_rule.specs.Sending.{StepOf, left_of}
use Rattle.ds_rule.specs.World.{World}

-- the events that are due before step n, and those that come later
abbrev pub due : ℕ → List Timed → List Timed
due n ts = filter (λ t. nat_le t.at n) ts

abbrev pub later : ℕ → List Timed → List Timed
later n ts = filter (λ t. nat_le (n + 1) t.at) ts

-- the steps of the events never fall; `last` is the one before
abbrev pub never_fall : ℕ → List Timed → Bool
never_fall last [] = true
never_fall last (t ∷ ts) = nat_le last t.at && never_fall t.at ts

-- the world after these events, in order
abbrev pub all_moved : World → List Timed → World
all_moved w [] = w
all_moved w (t ∷ ts) = all_moved (moved w t.event) ts

-- these events, in order
abbrev pub all_made : List Timed → List Happening
all_made ts = map (λ t. Moved t.event) ts

-- what happens where the block has these events and these are its steps from step n on: before each step the events that are
-- due, and at the end those that are left
abbrev pub woven : ℕ → List Timed → List JournalStep → List Happening
woven n ts [] = all_made ts
woven n ts (s ∷ ss) = all_made (due n ts) ++ Did s ∷ woven (n + 1) (later n ts) ss

-- what happened up to the last step
abbrev pub before_step : Happening → List Happening → List Happening
before_step h [] = []
before_step h (x ∷ xs) = h ∷ x ∷ xs

abbrev pub up_to_last_step : List Happening → List Happening
up_to_last_step [] = []
up_to_last_step (Moved e ∷ hs) = before_step (Moved e) (up_to_last_step hs)
up_to_last_step (Did s ∷ hs) = Did s ∷ up_to_last_step hs

-- no event with this step number or a greater one was due before one of these steps, the first of which has the number n
abbrev pub least_from : ℕ → List JournalStep → ℕ
least_from n [] = 0
least_from n (s ∷ ss) = n + length (s ∷ ss)

-- ---- what names a step

abbrev pub is_loss : Event → Bool
is_loss (LoseRequest c) = true
is_loss (LoseReply c) = true
is_loss e = false

abbrev pub names : ℕ → Timed → Bool
names n t = t.at == n

-- the first loss that names step n
abbrev pub loss_at : ℕ → List Timed → Option Timed
loss_at n ts = find (λ t. names n t && is_loss t.event) ts

abbrev pub passage_by : Event → Passage
passage_by (LoseRequest c) = RequestLost
passage_by (LoseReply c) = ReplyLost
passage_by e = BothWays

abbrev pub passage_of : Option Timed → Passage
passage_of None = BothWays
passage_of (Some t) = passage_by t.event

-- how step n fares
abbrev pub passage_at : ℕ → List Timed → Passage
passage_at n ts = passage_of (loss_at n ts)

-- the number that a loss gives a copy
abbrev pub lost_copy : Event → List ℕ
lost_copy (LoseRequest (Some c)) = c ∷ []
lost_copy (LoseReply (Some c)) = c ∷ []
lost_copy e = []

abbrev pub lost_copies : Option Timed → List ℕ
lost_copies None = []
lost_copies (Some t) = lost_copy t.event

abbrev pub more_copies : Event → List ℕ
more_copies (Copy c) = c ∷ []
more_copies e = []

abbrev pub all_copies : ℕ → List Timed → List ℕ
all_copies n [] = []
all_copies n (t ∷ ts) = (if names n t then more_copies t.event else []) ++ all_copies n ts

-- the numbers of the copies of step n that stay under way: that of the loss that applies, and those of copies
abbrev pub copies_at : ℕ → List Timed → List ℕ
copies_at n ts = lost_copies (loss_at n ts) ++ all_copies n ts

-- ---- a block

-- from step n on, where so much was accepted before: before each step the events that are due, then the step, which is of the
-- batch with what is left of its limit, and is answered as the world answers it where it fares as the events say; and at the
-- block's end the events that are left
abbrev pub BlockPlays : Asking → List Accepted → ℕ → List Timed → World → List JournalStep → World → Type 0
BlockPlays q got n ts w [] v = v ≡ all_moved w ts
BlockPlays q got n ts w (s ∷ ss) v =
    StepOf q (left_of q got) s × IsAnswered (passage_at n ts) (all_moved w (due n ts)) s
    × BlockPlays q (got ++ accepted_by s) (n + 1) (later n ts) (step_world (passage_at n ts) (copies_at n ts) (all_moved w (due n ts)) s) ss v
