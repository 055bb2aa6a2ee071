-- Worked examples of the steps of a batch with a limit, some that hold and some that must not.
use Rattle.std.proofs.Common.{◌≡◌, ℕ, ◌==◌, Bool, false, [], ◌∷◌, Option, Some, None, refl}
use Rattle.ds_base.specs.Order.{bound}
use Rattle.ds_base.specs.declared.value.Dir.TheVariants.{Forward}
use Rattle.ds_desc.specs.declared.meta.Looked.TheVariants as Looked
use Rattle.ds_kind.specs.declared.batch.Head.{Head}
use Rattle.ds_kind.specs.declared.batch.Piece.{Piece}
use Rattle.ds_kind.specs.declared.reply.Body.TheVariants as Body
use Rattle.ds_rule.specs.declared.answer.Answer.TheVariants.{Done, Lost}
use Rattle.ds_rule.specs.declared.journal.JournalStep.{JournalStep}
use Rattle.ds_rule.specs.declared.journal.JournalStep.TheVariants.{Look, Send}
use Rattle.ds_rule.specs.Asking.{Asking}
use Rattle.ds_rule.specs.Blocks.{BlockPlays}
use Rattle.ds_rule.specs.Journal.{Moved, Did, Accepted}
use Rattle.ds_rule.specs.Sending.{AllOf, StepOf, left_of}
use Rattle.ds_rule.specs.World.{World}
use Rattle.ds_rule.proofs.Examples.{key_a, key_b, key_m, key_z, world, get, scan, alone_at, piece, asked_by, got, row, saying, wrote, differs, never}
use Rattle.ds_rule.proofs.ExamplesOfJournals.{a_get_is_a_piece_of_its_batch}

-- a head with so much left of a limit
abbrev with_left : Option ℕ → Head
with_left left = record (alone_at 20) { left = left }

-- a batch of one get at a, of a limit of three
abbrev three : Asking
three = asked_by (with_left (Some 3)) (get key_a ∷ [])

abbrev get_left : Option ℕ → Piece
get_left left = piece (with_left left) 1 (get key_a ∷ [])

-- the get with so much left, which gave 7
abbrev gave : ℕ → JournalStep
gave n = Send 1 (get_left (Some n)) (Done (got 7 ∷ []))

is_number : ℕ → Option ℕ → Bool
is_number n None = false
is_number n (Some m) = m == n

two_rows : Accepted
two_rows = record {
  head = with_left (Some 3);
  item = record { pos = 0; seq = record { 0 = 0 }; request = scan key_a key_z };
  reply = saying (Body.Rows (row key_a 1 ∷ row key_b 2 ∷ []));
}

two_rows_of_three_leave_one : left_of three (two_rows ∷ []) ≡ Some 1
unfolding two_rows
two_rows_of_three_leave_one = refl

without_a_limit_none_is_left : left_of (asked_by (alone_at 20) (get key_a ∷ [])) (two_rows ∷ []) ≡ None
unfolding two_rows
without_a_limit_none_is_left = refl

the_next_piece_has_one : StepOf three (left_of three (two_rows ∷ [])) (Send 1 (get_left (Some 1)) Lost)
unfolding two_rows
the_next_piece_has_one = a_get_is_a_piece_of_its_batch (with_left (Some 3)) (Some 1)

not_the_whole_limit : StepOf three (left_of three (two_rows ∷ [])) (Send 1 (get_left (Some 3)) Lost) → ⊥
unfolding two_rows is_number
not_the_whole_limit h = differs h.head (λ head. is_number 3 head.left) refl refl

no_lookup_is_free : StepOf three (Some 3) (Look bound Forward Looked.Lost) → ⊥
no_lookup_is_free h = never h

-- a lookup and a move take nothing of the limit
a_row_is_taken_once : AllOf three [] (Did (Look key_m Forward Looked.Lost) ∷ Did (gave 3) ∷ Moved (wrote key_m 21 5) ∷ Did (gave 2) ∷ [])
a_row_is_taken_once = (
  refl,
  (a_get_is_a_piece_of_its_batch (with_left (Some 3)) (Some 3), (a_get_is_a_piece_of_its_batch (with_left (Some 3)) (Some 2), tt)),
)

a_block_goes_on_with_what_is_left : BlockPlays three [] 1 [] world (gave 3 ∷ gave 2 ∷ []) world
a_block_goes_on_with_what_is_left = (
  a_get_is_a_piece_of_its_batch (with_left (Some 3)) (Some 3),
  refl,
  (a_get_is_a_piece_of_its_batch (with_left (Some 3)) (Some 2), refl, refl),
)

not_with_the_whole_limit_again : (v : World) → BlockPlays three [] 1 [] world (gave 3 ∷ gave 3 ∷ []) v → ⊥
unfolding is_number
not_with_the_whole_limit_again v h = differs h.2.0.head (λ head. is_number 3 head.left) refl refl
