-- Worked examples of the definitions, some that hold and some that must not: what the simulated cluster stands for, how a lookup is
-- answered, and what the items of a piece shift.
use Rattle.std.proofs.Common.{◌≡◌, ℕ, ◌==◌, Bool, true, false, List, [], ◌∷◌, Some, None, length, refl, sym, lit<, arith}
use Rattle.ds_base.proofs.TestFacts.{never}
use Rattle.ds_base.specs.declared.value.Dir.TheVariants.{Forward}
use Rattle.ds_desc.specs.declared.meta.Looked.TheVariants.{Rows}
use Rattle.ds_desc.specs.declared.refusal.Refusal.TheVariants.{NotFound}
use Rattle.ds_kind.specs.declared.reply.Body.TheVariants as Body
use Rattle.ds_kind.specs.declared.request.Request.TheVariants.{AdminSplit}
use Rattle.ds_rule.specs.declared.answer.Answer.TheVariants.{Done, Refused}
use Rattle.ds_rule.specs.declared.event.Event.{Event}
use Rattle.ds_rule.specs.declared.event.Event.TheVariants.{Write}
use Rattle.ds_rule.specs.declared.event.Timed.{Timed}
use Rattle.ds_rule.specs.Clauses.{Stands}
use Rattle.ds_rule.specs.Journal.{Happening, Did, Moved}
use Rattle.ds_rule.specs.Moves.{moved}
use Rattle.ds_rule.specs.World.{armed_row}
use Rattle.ds_rule.proofs.Examples.{key_a, key_m, low, world, differs}
use Rattle.ds_rule.proofs.ExamplesOfJournals.{look}
use Rattle.ds_ranges.specs.Layout.{layout_of}
use Rattle.ds_sim.specs.declared.shift.Shift.TheVariants.{Split}
use Rattle.ds_sim.specs.Done.{shifts_of}
use Rattle.ds_sim.specs.Looks.{LooksArmed}
use Rattle.ds_sim.specs.State.{Ended, block_over, refused_after, stands_for, world_of}
use Rattle.ds_sim.specs.UnderWay.{IsUnderWay, UnderWay, is_due}

-- ---- what the cluster stands for

the_parts_of_a_world_make_it : world_of (layout_of world) [] [] 0 ≡ record world { records = []; count = 0 }
the_parts_of_a_world_make_it = refl

abbrev written : Event
written = Write key_a (record { 0 = 12 }) None

at_step : ℕ → Event → Timed
at_step n e = record { at = n; event = e }

-- before its second step a block has made one event, and one is still to come
in_a_block : UnderWay
in_a_block = record { made = at_step 1 written ∷ []; coming = at_step 3 written ∷ []; steps = look ∷ []; floor = 10; count = 4 }

its_past_is_its_events_and_steps : (stands_for world in_a_block 2 []).past ≡ Moved written ∷ Did look ∷ []
unfolding in_a_block at_step
its_past_is_its_events_and_steps = refl

its_block_is_all_its_events : (stands_for world in_a_block 2 []).block ≡ at_step 1 written ∷ at_step 3 written ∷ []
unfolding in_a_block
its_block_is_all_its_events = refl

none_is_due_before_step_2 : is_due in_a_block ≡ false
unfolding in_a_block at_step
none_is_due_before_step_2 = refl

one_is_before_step_3 : is_due (record in_a_block { steps = look ∷ look ∷ [] }) ≡ true
unfolding in_a_block at_step
one_is_before_step_3 = refl

it_has_its_place_after_step_2 : IsUnderWay (record in_a_block { steps = look ∷ look ∷ [] })
unfolding in_a_block at_step
it_has_its_place_after_step_2 = record { made = (omega arith, tt); coming = refl; moves = ((lit< tt, refl), tt); fits = omega arith }

it_has_none_after_step_3 : IsUnderWay (record in_a_block { steps = look ∷ look ∷ look ∷ [] }) → ⊥
unfolding in_a_block at_step
it_has_none_after_step_3 h = never h.coming

abbrev second_is_a_step : List Happening → Bool
second_is_a_step (h ∷ Did s ∷ hs) = true
second_is_a_step hs = false

it_ends_with_what_is_left : Ended (look ∷ []) (stands_for world in_a_block 2 []) (block_over (moved world written) (stands_for world in_a_block 2 []))
unfolding in_a_block at_step
it_ends_with_what_is_left = record { done = at_step 1 written ∷ []; left = at_step 3 written ∷ []; block = refl; past = refl; all = refl; state = refl }

it_doesnt_end_without_its_step : (b : Stands) → Ended [] (stands_for world in_a_block 2 []) b → ⊥
unfolding in_a_block at_step
it_doesnt_end_without_its_step b h = differs (sym h.all) second_is_a_step refl refl

a_refusal_counts : refused_after (Refused NotFound) 2 ≡ 3
a_refusal_counts = refl

it_doesnt_at_the_last_value : refused_after (Refused NotFound) 18446744073709551615 ≡ 18446744073709551615
it_doesnt_at_the_last_value = refl

no_other_answer_counts : refused_after (Done []) 2 ≡ 3 → ⊥
no_other_answer_counts h = differs h (λ n. n == 2) refl refl

-- ---- how a lookup is answered

an_armed_one_answers_once : LooksArmed key_a Forward (low.info.desc ∷ []) [] (Rows (armed_row low.info.desc ∷ []))
an_armed_one_answers_once = record { desc = low.info.desc; found = refl; rows = refl; gone = refl }

it_doesnt_stay_armed : LooksArmed key_a Forward (low.info.desc ∷ []) (low.info.desc ∷ []) (Rows (armed_row low.info.desc ∷ [])) → ⊥
it_doesnt_stay_armed h = differs h.gone (λ ds. length ds == 1) refl refl

-- ---- what items shift

a_split_shifts : shifts_of (record { pos = 0; seq = record { 0 = 0 }; request = AdminSplit (record { key = key_m }) } ∷ []) (record { body = Body.Unit; resume = None } ∷ []) ≡ Split key_m ∷ []
a_split_shifts = refl

one_that_is_still_to_be_asked_doesnt : shifts_of (record { pos = 0; seq = record { 0 = 0 }; request = AdminSplit (record { key = key_m }) } ∷ []) (record { body = Body.Unit; resume = Some (record { start = key_m; end = key_m }) } ∷ []) ≡ []
one_that_is_still_to_be_asked_doesnt = refl
