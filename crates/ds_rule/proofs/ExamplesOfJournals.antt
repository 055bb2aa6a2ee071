-- Worked examples of the definitions, some that hold and some that must not: journals, blocks, and what a call adds.
use Rattle.std.proofs.Common.{◌≡◌, ℕ, zero, suc, ◌==◌, ◌<◌, List, [], ◌∷◌, length, map, Option, None, inl, inr, refl, ap, ◌∙◌, lit<, arith, Bool, true, false, Some}
use Rattle.ds_base.specs.Order.{bound}
use Rattle.ds_base.specs.Ordered.{key_eq}
use Rattle.ds_base.specs.declared.value.Dir.{Dir}
use Rattle.ds_base.specs.declared.value.Dir.TheVariants.{Forward, Reverse}
use Rattle.ds_base.specs.Counts.{Rose}
use Rattle.ds_desc.specs.declared.meta.Looked.TheVariants as Looked
use Rattle.ds_desc.specs.declared.refusal.Refusal.TheVariants.{NotFound}
use Rattle.ds_kind.specs.Request.{cut_to, span_of}
use Rattle.ds_kind.specs.declared.batch.Head.{Head}
use Rattle.ds_kind.specs.declared.batch.Item.{Item}
use Rattle.ds_kind.specs.declared.batch.Piece.{Piece}
use Rattle.ds_kind.specs.declared.reply.Body.TheVariants as Body
use Rattle.ds_rule.specs.declared.answer.Answer.{Answer}
use Rattle.ds_rule.specs.declared.answer.Answer.TheVariants.{Done, Refused, Lost}
use Rattle.ds_rule.specs.declared.event.Event.{Event}
use Rattle.ds_rule.specs.declared.event.Timed.{Timed}
use Rattle.ds_rule.specs.declared.journal.JournalStep.{JournalStep}
use Rattle.ds_rule.specs.declared.journal.JournalStep.TheVariants.{Look, Send}
use Rattle.ds_rule.specs.declared.event.Event.TheVariants.{Copy, LoseReply, LoseRequest}
use Rattle.ds_rule.specs.Blocks.{BlockPlays, copies_at, never_fall, passage_at, woven}
use Rattle.ds_rule.specs.Clauses.{Stands, Steps, Stays}
use Rattle.ds_rule.specs.Deliver.{deliver_world}
use Rattle.ds_rule.specs.Journal.{Happening, Moved, Did, Does, Runs, accepted, steps_of, moves_of, BothWays, RequestLost, ReplyLost, DoesSo}
use Rattle.ds_rule.specs.Moves.{IsMove, moved, counted}
use Rattle.ds_rule.specs.Pieces.{IsCut, IsOneOf, PieceOf}
use Rattle.ds_rule.specs.World.{World, cell_of, look_rows}
use Rattle.ds_rule.proofs.ExamplesOfMoves.{late, put_5, with_late}
use Rattle.ds_rule.proofs.Passing.{Told, told}
use Rattle.ds_rule.proofs.Examples.{key_a, key_m, low, high, world, get, put, alone_at, piece, asked_by, asked_at, saying, got, number_in, wrote, differs, never}

-- the lookup of a, as the world answers it
abbrev pub look : JournalStep
look = Look key_a Forward (Looked.Rows (low.info ∷ high.info ∷ []))

-- a get at a and a put there, in a piece each
abbrev pub get_piece : Piece
get_piece = piece (alone_at 20) 1 (get key_a ∷ [])

abbrev put_piece : Piece
put_piece = piece (alone_at 20) 1 (put key_a 5 ∷ [])

-- the get with this answer
abbrev pub get_gave : ℕ → JournalStep
get_gave n = Send 1 get_piece (Done (got n ∷ []))

-- a foreign write at a, above the floor and below the get
abbrev write_5 : Event
write_5 = wrote key_a 12 5

-- ---- steps, one by one

a_lookup_is_answered_by_the_world : Does world look world
a_lookup_is_answered_by_the_world = (BothWays, ((refl, refl), refl))

no_row_is_left_out : Does world (Look key_a Forward (Looked.Rows (low.info ∷ []))) world → ⊥
no_row_is_left_out h = differs (told world (Look key_a Forward (Looked.Rows (low.info ∷ []))) world h).0 (λ rows. length rows == 1) refl refl

a_lost_lookup_leaves_the_world : Does world (Look key_a Forward Looked.Lost) world
a_lost_lookup_leaves_the_world = (RequestLost, (refl, refl))

-- the lookup of a key, lost or with the rows that the world has there
abbrev lost_at : List ℕ → Dir → JournalStep
lost_at k d = Look k d Looked.Lost

abbrev looked_at : List ℕ → Dir → JournalStep
looked_at k d = Look k d (Looked.Rows (look_rows world k d))

the_least_key_may_be_looked_up_forward : Does world (looked_at [] Forward) world
the_least_key_may_be_looked_up_forward = (BothWays, ((refl, refl), refl))

it_may_not_in_reverse : Does world (looked_at [] Reverse) world → ⊥
it_may_not_in_reverse h = never (told world (looked_at [] Reverse) world h).2

the_bound_may_be_looked_up_in_reverse : Does world (looked_at bound Reverse) world
the_bound_may_be_looked_up_in_reverse = (BothWays, ((refl, refl), refl))

it_may_not_forward : Does world (looked_at bound Forward) world → ⊥
it_may_not_forward h = never (told world (looked_at bound Forward) world h).2

nor_may_it_where_the_answer_is_lost : Does world (lost_at bound Forward) world → ⊥
nor_may_it_where_the_answer_is_lost h = never (told world (lost_at bound Forward) world h).1

a_lost_put_may_have_been_made : Does world (Send 1 put_piece Lost) (deliver_world world 1 put_piece)
a_lost_put_may_have_been_made = (ReplyLost, (refl, refl))

a_lost_put_may_never_have_come : Does world (Send 1 put_piece Lost) world
a_lost_put_may_never_have_come = (RequestLost, (refl, refl))

a_lost_put_does_nothing_else : Does world (Send 1 put_piece Lost) (counted world) → ⊥
a_lost_put_does_nothing_else h = by (told world (Send 1 put_piece Lost) (counted world) h)
  where
    by : Told world (Send 1 put_piece Lost) (counted world) → ⊥
    by (inl same) = differs same (λ w. w.count == 1) refl refl
    by (inr made) = differs made (λ w. w.count == 1) refl refl

a_put_that_is_done_is_made : Does world (Send 1 put_piece (Done (saying Body.Unit ∷ []))) world → ⊥
a_put_that_is_done_is_made h = differs (told world (Send 1 put_piece (Done (saying Body.Unit ∷ []))) world h).1 (λ w. length (cell_of w key_a).versions == 1) refl refl

-- ---- how a step fares

a_copy_of_a_transactions_piece_stays : DoesSo RequestLost (3 ∷ []) world (Send 1 put_5 Lost) (with_late (late 3 1))
a_copy_of_a_transactions_piece_stays = (refl, refl)

none_stays_of_a_piece_without_one : DoesSo RequestLost (3 ∷ []) world (Send 1 put_piece Lost) world
none_stays_of_a_piece_without_one = (refl, refl)

none_stays_of_what_is_refused : DoesSo BothWays (3 ∷ []) world (Send 2 put_5 (Refused NotFound)) world
none_stays_of_what_is_refused = (refl, refl)

-- node 2 has no replica and refuses the piece, which nobody sees
a_lost_reply_leaves_its_copy_where_the_piece_was_refused : DoesSo ReplyLost (3 ∷ []) world (Send 2 put_5 Lost) (with_late (late 3 2))
a_lost_reply_leaves_its_copy_where_the_piece_was_refused = (refl, refl)

it_doesnt_leave_none : DoesSo ReplyLost (3 ∷ []) world (Send 2 put_5 Lost) world → ⊥
it_doesnt_leave_none h = differs h.1 (λ w. length w.copies == 0) refl refl

a_wire_without_copies_leaves_none : Does world (Send 2 put_5 Lost) (with_late (late 3 2)) → ⊥
a_wire_without_copies_leaves_none h = by (told world (Send 2 put_5 Lost) (with_late (late 3 2)) h)
  where
    by : Told world (Send 2 put_5 Lost) (with_late (late 3 2)) → ⊥
    by (inl same) = differs same (λ w. length w.copies == 1) refl refl
    by (inr made) = differs made (λ w. length w.copies == 1) refl refl

what_comes_back_is_not_lost : (w : World) → DoesSo BothWays [] world (Send 1 put_piece Lost) w → ⊥
what_comes_back_is_not_lost w h = differs h.0 is_lost refl refl
  where
    is_lost : Answer → Bool
    is_lost Lost = true
    is_lost a = false

-- ---- one after another

a_lookup_a_foreign_write_and_a_get_run : Runs world (Did look ∷ Moved write_5 ∷ Did (get_gave 5) ∷ []) (moved world write_5)
a_lookup_a_foreign_write_and_a_get_run = (world, (BothWays, ((refl, refl), refl)), (moved world write_5, refl, (moved world write_5, (BothWays, (refl, refl)), refl)))

an_invented_answer_doesnt_run : (v : World) → Runs world (Did (get_gave 8) ∷ []) v → ⊥
an_invented_answer_doesnt_run v h = differs (told world (get_gave 8) h.0 h.1).0 (λ a. number_in a == 8) refl refl

what_is_done_is_accepted : accepted (Did look ∷ Moved write_5 ∷ Did (get_gave 5) ∷ [])
    ≡ record { head = alone_at 20; item = record { pos = 0; seq = record { 0 = 0 }; request = get key_a }; reply = got 5 } ∷ []
what_is_done_is_accepted = refl

what_is_lost_is_not_accepted : accepted (Did (Send 1 get_piece Lost) ∷ []) ≡ []
what_is_lost_is_not_accepted = refl

the_journal_has_the_steps_alone : steps_of (Did look ∷ Moved write_5 ∷ Did (get_gave 5) ∷ []) ≡ look ∷ get_gave 5 ∷ []
the_journal_has_the_steps_alone = refl

a_move_comes_after_one_step : moves_of 0 (Did look ∷ Moved write_5 ∷ Did (get_gave 5) ∷ []) ≡ (1, write_5) ∷ []
a_move_comes_after_one_step = refl

-- ---- pieces of a batch

pub a_get_is_a_piece_of_its_batch : (h : Head) (left : Option ℕ) → PieceOf (asked_by h (get key_a ∷ [])) left (piece (record h { left = left }) 1 (get key_a ∷ []))
a_get_is_a_piece_of_its_batch h left = record {
  head = refl;
  some = lit< tt;
  rising = (tt, tt);
  cuts = (
    record {
      whole = record { pos = 0; seq = record { 0 = 0 }; request = get key_a };
      there = inl refl;
      position = refl;
      number = refl;
      request = refl;
      some = refl;
      from = refl;
      to = refl;
    },
    tt,
  );
  fit = refl;
  ends = λ h. absurd (never h);
  dir = refl;
}

another_stamp_isnt_the_batchs : PieceOf (asked_at 10 (get key_a ∷ [])) None get_piece → ⊥
another_stamp_isnt_the_batchs h = differs h.head (λ head. head.at.0 == 20) refl refl

-- what a piece asks is cut from the one request of its batch
cut_from_one : (x i : Item) → IsCut (x ∷ []) i → i.request ≡ cut_to (span_of i.request).start (span_of i.request).end x.request
cut_from_one x i h = go h.there
  where
    go : IsOneOf h.whole (x ∷ []) → i.request ≡ cut_to (span_of i.request).start (span_of i.request).end x.request
    go (inl same) = h.request ∙ ap (λ w. cut_to (span_of i.request).start (span_of i.request).end w.request) same
    go (inr none) = absurd none

a_get_at_another_key_isnt_of_the_batch : PieceOf (asked_at 20 (get key_m ∷ [])) None get_piece → ⊥
a_get_at_another_key_isnt_of_the_batch h = differs (cut_from_one _ _ h.cuts.0) (λ r. key_eq (span_of r).start key_a) refl refl

-- ---- blocks

at_step : ℕ → Event → Timed
at_step n e = record { at = n; event = e }

before_step_2 : List Timed
before_step_2 = at_step 2 write_5 ∷ []

a_block_plays_its_steps : BlockPlays (asked_at 20 (get key_a ∷ [])) [] 1 [] world (look ∷ get_gave 7 ∷ []) world
a_block_plays_its_steps = (refl, (refl, refl), (a_get_is_a_piece_of_its_batch (alone_at 20) None, refl, refl))

a_made_up_reply_doesnt_play : (v : World) → BlockPlays (asked_at 20 (get key_a ∷ [])) [] 1 [] world (get_gave 8 ∷ []) v → ⊥
a_made_up_reply_doesnt_play v h = differs h.1 (λ a. number_in a == 8) refl refl

a_step_of_another_batch_doesnt_play : (v : World) → BlockPlays (asked_at 10 (get key_a ∷ [])) [] 1 [] world (get_gave 7 ∷ []) v → ⊥
a_step_of_another_batch_doesnt_play v h = another_stamp_isnt_the_batchs h.0

an_event_before_step_2_is_seen_by_it : BlockPlays (asked_at 20 (get key_a ∷ [])) [] 1 before_step_2 world (look ∷ get_gave 5 ∷ []) (moved world write_5)
unfolding before_step_2 at_step
an_event_before_step_2_is_seen_by_it = (refl, (refl, refl), (a_get_is_a_piece_of_its_batch (alone_at 20) None, refl, refl))

it_isnt_made_after_step_2 : (v : World) → BlockPlays (asked_at 20 (get key_a ∷ [])) [] 1 before_step_2 world (look ∷ get_gave 7 ∷ []) v → ⊥
unfolding before_step_2 at_step
it_isnt_made_after_step_2 v h = differs h.2.1 (λ a. number_in a == 7) refl refl

it_isnt_made_before_step_1 : (v : World) → BlockPlays (asked_at 20 (get key_a ∷ [])) [] 1 before_step_2 world (get_gave 5 ∷ []) v → ⊥
unfolding before_step_2 at_step
it_isnt_made_before_step_1 v h = differs h.1 (λ a. number_in a == 5) refl refl

the_first_loss_of_a_step_applies : passage_at 1 (at_step 2 (LoseReply None) ∷ at_step 1 (LoseRequest None) ∷ at_step 1 (LoseReply None) ∷ []) ≡ RequestLost
unfolding at_step
the_first_loss_of_a_step_applies = refl

its_copies_stay_and_those_that_name_the_step : copies_at 1 (at_step 1 (LoseReply (Some 3)) ∷ at_step 2 (Copy 4) ∷ at_step 1 (Copy 5) ∷ at_step 1 (LoseRequest (Some 6)) ∷ []) ≡ 3 ∷ 5 ∷ []
unfolding at_step
its_copies_stay_and_those_that_name_the_step = refl

a_step_is_lost_where_the_block_says_so : BlockPlays (asked_at 20 (get key_a ∷ [])) [] 1 (at_step 2 (LoseReply None) ∷ []) world (get_gave 7 ∷ Send 1 get_piece Lost ∷ []) world
unfolding at_step
a_step_is_lost_where_the_block_says_so = (a_get_is_a_piece_of_its_batch (alone_at 20) None, refl, (a_get_is_a_piece_of_its_batch (alone_at 20) None, refl, refl))

no_other_step_is_lost : (v : World) → BlockPlays (asked_at 20 (get key_a ∷ [])) [] 1 (at_step 2 (LoseReply None) ∷ []) world (Send 1 get_piece Lost ∷ []) v → ⊥
unfolding at_step
no_other_step_is_lost v h = differs h.1 (λ a. number_in a == 0) refl refl

events_after_the_last_step_are_made_at_the_end : BlockPlays (asked_at 20 (get key_a ∷ [])) [] 1 (at_step 9 write_5 ∷ []) world [] (moved world write_5)
unfolding at_step
events_after_the_last_step_are_made_at_the_end = refl

none_of_them_is_left_out : BlockPlays (asked_at 20 (get key_a ∷ [])) [] 1 (at_step 9 write_5 ∷ []) world [] world → ⊥
unfolding at_step
none_of_them_is_left_out h = differs h (λ w. w.count == 0) refl refl

-- ---- events among steps

an_event_stands_before_its_step : woven 1 before_step_2 (look ∷ get_gave 5 ∷ []) ≡ Did look ∷ Moved write_5 ∷ Did (get_gave 5) ∷ []
unfolding before_step_2 at_step
an_event_stands_before_its_step = refl

and_at_the_end_without_that_step : woven 1 before_step_2 (look ∷ []) ≡ Did look ∷ Moved write_5 ∷ []
unfolding before_step_2 at_step
and_at_the_end_without_that_step = refl

abbrev begins_with_a_step : List Happening → Bool
begins_with_a_step [] = false
begins_with_a_step (Did s ∷ hs) = true
begins_with_a_step (Moved e ∷ hs) = false

it_doesnt_stand_before_step_1 : woven 1 before_step_2 (look ∷ []) ≡ Moved write_5 ∷ Did look ∷ [] → ⊥
unfolding before_step_2 at_step
it_doesnt_stand_before_step_1 h = differs h begins_with_a_step refl refl

events_that_fall_are_told : never_fall 0 (at_step 2 write_5 ∷ at_step 1 write_5 ∷ []) ≡ false
unfolding at_step
events_that_fall_are_told = refl

two_before_one_step_dont_fall : never_fall 0 (at_step 2 write_5 ∷ at_step 2 write_5 ∷ []) ≡ true
unfolding at_step
two_before_one_step_dont_fall = refl

-- ---- what a call adds to what a wire stands for

abbrev pub wire : Stands
wire = record { world = world; past = []; floor = 10; refused = 0; lost = 0; ahead = []; block = [] }

a_call_adds_its_step : Steps wire (record wire { past = Did look ∷ [] }) look
a_call_adds_its_step = record {
  moves = [];
  above = tt;
  grown = refl;
  runs = (world, (BothWays, ((refl, refl), refl)), refl);
  floor = refl;
  ahead = refl;
  block = refl;
  refused = omega arith;
  lost = omega arith;
  refuses = λ h. absurd h;
  loses = λ h. absurd h;
}

a_block_looks_up_where_some_key_lies_ahead : (v : World) → BlockPlays (asked_at 20 (get key_a ∷ [])) [] 1 [] world (looked_at bound Forward ∷ []) v → ⊥
a_block_looks_up_where_some_key_lies_ahead v h = never h.1.1

never_rose : Rose 0 0 → ⊥
never_rose h = omega arith

turned_away : JournalStep
turned_away = Send 1 get_piece (Refused NotFound)

a_refusal_is_counted : Steps wire (record wire { past = Did turned_away ∷ [] }) turned_away → ⊥
unfolding turned_away
a_refusal_is_counted h = never_rose (h.refuses tt)

a_loss_is_counted : Steps wire (record wire { past = Did (Send 1 get_piece Lost) ∷ [] }) (Send 1 get_piece Lost) → ⊥
a_loss_is_counted h = never_rose (h.loses tt)

no_steps : (es : List Event) → length (steps_of (map Moved es)) ≡ 0
no_steps [] = refl
no_steps (e ∷ es) = no_steps es

a_call_keeps_the_block_s_events : Steps wire (record wire { past = Did look ∷ []; block = before_step_2 }) look → ⊥
unfolding before_step_2
a_call_keeps_the_block_s_events h = differs h.block (λ ts. length ts == 1) refl refl

a_call_that_wants_memory_makes_no_step : Stays wire (record wire { past = Did look ∷ [] }) → ⊥
a_call_that_wants_memory_makes_no_step h = differs (ap (λ hs. length (steps_of hs)) h.grown ∙ no_steps h.moves) (λ n. n == 1) refl refl

a_foreign_write_stays_above_the_floor : IsMove 10 (wrote key_a 11 5)
a_foreign_write_stays_above_the_floor = (lit< tt, refl)

none_comes_at_the_floor : IsMove 10 (wrote key_a 10 5) → ⊥
none_comes_at_the_floor h = let low : 10 < 10 = h.0 in omega (arith, low)

none_comes_at_the_bound : IsMove 10 (wrote bound 11 5) → ⊥
none_comes_at_the_bound h = never h.1

-- a key of as many bytes
long : ℕ → List ℕ
long zero = []
long (suc n) = 97 ∷ long n

a_write_leaves_room_for_one_more_byte : IsMove 10 (wrote (long 64) 11 5)
unfolding long
a_write_leaves_room_for_one_more_byte = (lit< tt, refl)

none_comes_where_there_is_no_room : IsMove 10 (wrote (long 65) 11 5) → ⊥
unfolding long
none_comes_where_there_is_no_room h = never h.1
