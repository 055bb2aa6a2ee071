-- Which blocks of a part are sent: the piece of each send is one, beside those that were done and some others.
use Rattle.std.specs.Prelude.{◌≡◌, List, [], ◌∷◌, ◌++◌, None, refl}
use Rattle.std.proofs.Common.{inl, inr}
use Rattle.ds_base.specs.declared.value.Dir.TheVariants.{Forward}
use Rattle.ds_kind.specs.declared.batch.Item.{Item}
use Rattle.ds_kind.specs.declared.request.Request.TheVariants.{Get}
use Rattle.ds_cover.specs.Coverage.{Covered}
use Rattle.ds_rule.specs.declared.answer.Answer.TheVariants.{Lost}
use Rattle.ds_rule.specs.declared.journal.JournalStep.{JournalStep}
use Rattle.ds_rule.specs.declared.journal.JournalStep.TheVariants.{Look, Send}
use Rattle.ds_rule.specs.Journal.{Happening, Moved, Did}
use Rattle.ds_flight.specs.Left.{block_by}

-- the piece of a send is a block: at each of its keys it has all positions that the items have there, and what was done has none
abbrev pub StepCovers : List Item → List (List Item) → JournalStep → Type 0
StepCovers items done (Look k d l) = Unit {0}
StepCovers items done (Send n p a) = (others : List (List Item)) × Covered items (done ++ p.items ∷ others)

-- so is that of each send, where these blocks were done before
abbrev pub AllCover : List Item → List (List Item) → List Happening → Type 0
AllCover items done [] = Unit {0}
AllCover items done (Moved e ∷ hs) = AllCover items done hs
AllCover items done (Did s ∷ hs) = StepCovers items done s × AllCover items (done ++ block_by s) hs

-- a get of a, sent alone

abbrev one_get : List Item
one_get = record { pos = 0; seq = record { 0 = 0 }; request = Get (record { key = 97 ∷ [] }) } ∷ []

abbrev its_send : JournalStep
its_send = Send 1 (record { head = record { at = record { 0 = 5 }; txn = None; left = None; epoch = 0 }; range = 7; items = one_get; dir = Forward }) Lost

it_is_sent_once : AllCover one_get [] (Did its_send ∷ [])
it_is_sent_once = (([], λ k. inl (refl, tt)), tt)

-- and not again after it was done
not_after_it_was_done : StepCovers one_get (one_get ∷ []) its_send → ⊥
not_after_it_was_done h =
    elim (h.1 (97 ∷ [])) [
      | inl first ↦ let none : 0 ∷ [] ≡ [] = first.1.0 in cc
      | inr later ↦ let none : 0 ∷ [] ≡ [] = later.0 in cc
    ]
