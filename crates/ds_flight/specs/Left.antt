-- What steps answer: which blocks are done, what arrived, and what is left of a limit.
use Rattle.std.specs.Prelude.{◌≡◌, ℕ, List, [], ◌∷◌, ◌++◌, map, Option, Some, None, pos, refl}
use Rattle.ds_base.specs.declared.value.Dir.TheVariants.{Forward}
use Rattle.ds_base.specs.declared.value.Value.TheVariants.{Int}
use Rattle.ds_kind.specs.Left.{left_after}
use Rattle.ds_kind.specs.declared.batch.Item.{Item}
use Rattle.ds_kind.specs.declared.batch.Piece.{Piece}
use Rattle.ds_kind.specs.declared.reply.Body.TheVariants as Said
use Rattle.ds_kind.specs.declared.reply.Failure.{Failure}
use Rattle.ds_kind.specs.declared.reply.Reply.{Reply}
use Rattle.ds_kind.specs.declared.request.Request.TheVariants.{Get}
use Rattle.ds_gather.specs.Gathered.{arrivals}
use Rattle.ds_gather.specs.declared.arrival.Arrival.{Arrival}
use Rattle.ds_rule.specs.declared.answer.Answer.TheVariants.{Done, Failed, Refused, Lost}
use Rattle.ds_rule.specs.declared.journal.JournalStep.{JournalStep}
use Rattle.ds_rule.specs.declared.journal.JournalStep.TheVariants.{Look, Send}
use Rattle.ds_rule.specs.Journal.{Happening, Moved, Did, accepted_by}

-- the replies of the items that a step accepts
abbrev pub replies_by : JournalStep → List Reply
replies_by s = map (λ a. a.reply) (accepted_by s)

-- what is left of a limit after all that was accepted
abbrev pub left_over : Option ℕ → List Happening → Option ℕ
left_over left [] = left
left_over left (Moved e ∷ hs) = left_over left hs
left_over left (Did s ∷ hs) = left_over (left_after left (replies_by s)) hs

-- the items of each piece that was answered Done
abbrev pub block_by : JournalStep → List (List Item)
block_by (Look k d l) = []
block_by (Send n p (Done rs)) = p.items ∷ []
block_by (Send n p (Failed f)) = []
block_by (Send n p (Refused r)) = []
block_by (Send n p Lost) = []

abbrev pub blocks_of : List Happening → List (List Item)
blocks_of [] = []
blocks_of (Moved e ∷ hs) = blocks_of hs
blocks_of (Did s ∷ hs) = block_by s ++ blocks_of hs

-- what arrived for a gatherer
abbrev pub arrived_by : JournalStep → List Arrival
arrived_by (Look k d l) = []
arrived_by (Send n p (Done rs)) = arrivals p.items rs
arrived_by (Send n p (Failed f)) = []
arrived_by (Send n p (Refused r)) = []
arrived_by (Send n p Lost) = []

abbrev pub arrived : List Happening → List Arrival
arrived [] = []
arrived (Moved e ∷ hs) = arrived hs
arrived (Did s ∷ hs) = arrived_by s ++ arrived hs

-- the failures that pieces were answered
abbrev pub failed_by : JournalStep → List Failure
failed_by (Look k d l) = []
failed_by (Send n p (Done rs)) = []
failed_by (Send n p (Failed f)) = f ∷ []
failed_by (Send n p (Refused r)) = []
failed_by (Send n p Lost) = []

abbrev pub failures : List Happening → List Failure
failures [] = []
failures (Moved e ∷ hs) = failures hs
failures (Did s ∷ hs) = failed_by s ++ failures hs

-- a get of a, lost and then served under a limit of three

abbrev a_get : List Item
a_get = record { pos = 0; seq = record { 0 = 0 }; request = Get (record { key = 97 ∷ [] }) } ∷ []

abbrev a_piece : Piece
a_piece = record { head = record { at = record { 0 = 5 }; txn = None; left = Some 3; epoch = 0 }; range = 7; items = a_get; dir = Forward }

abbrev found : Reply
found = record { body = Said.Got (Some (Int (pos 1))); resume = None }

abbrev lost_then_served : List Happening
lost_then_served = Did (Send 1 a_piece Lost) ∷ Did (Send 1 a_piece (Done (found ∷ []))) ∷ []

one_was_taken : left_over (Some 3) lost_then_served ≡ Some 2
one_was_taken = refl

one_block : blocks_of lost_then_served ≡ a_get ∷ []
one_block = refl

one_arrived : arrived lost_then_served ≡ record { pos = 0; start = 97 ∷ []; reply = found } ∷ []
one_arrived = refl
