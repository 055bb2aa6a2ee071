-- Worked examples of the definitions, some that hold and some that must not: what a sender did in one call, and steady
-- worlds.
use Rattle.std.proofs.Common.{◌≡◌, ◌==◌, ◌<◌, true, List, [], ◌∷◌, length, Some, None, refl, lit<, arith}
use Rattle.ds_base.specs.declared.value.Dir.TheVariants.{Forward}
use Rattle.ds_desc.specs.declared.meta.Looked.TheVariants as Looked
use Rattle.ds_rule.specs.declared.answer.Answer.TheVariants.{Lost}
use Rattle.ds_rule.specs.declared.event.Event.TheVariants.{Abort}
use Rattle.ds_rule.specs.declared.journal.JournalStep.TheVariants.{Look, Send}
use Rattle.ds_rule.specs.Asking.{Asking}
use Rattle.ds_rule.specs.Clauses.{Stands}
use Rattle.ds_rule.specs.Journal.{Happening, Moved, Did, BothWays, Accepted}
use Rattle.ds_rule.specs.Path.{AreRouted, GoesTo, IsHigh, IsOf, IsStepOf, LosesOnly, Path, holds_span, route_by}
use Rattle.ds_rule.specs.Steady.{Steady}
use Rattle.ds_rule.proofs.Examples.{key_a, key_m, low, high, world, get, scan, alone_at, piece, asked_at, got, wrote, differs, never}
use Rattle.ds_rule.proofs.ExamplesOfJournals.{look, get_piece, get_gave, wire, a_get_is_a_piece_of_its_batch}

-- the batch of one get at a
asked : Asking
asked = asked_at 20 (get key_a ∷ [])

-- ---- one thing that happened

a_write_above_the_floor_is_high : IsHigh 10 (Moved (wrote key_a 11 5))
a_write_above_the_floor_is_high = (lit< tt, refl)

a_write_at_the_floor_is_not : IsHigh 10 (Moved (wrote key_a 10 5)) → ⊥
a_write_at_the_floor_is_not h = let low : 10 < 10 = h.0 in omega (arith, low)

a_step_has_no_stamp : IsHigh 10 (Did look)
a_step_has_no_stamp = tt

a_lookup_is_a_step_of_any_batch : IsStepOf asked look
a_lookup_is_a_step_of_any_batch = tt

a_piece_of_the_batch_is_a_step_of_it : IsStepOf asked (get_gave 7)
unfolding asked
a_piece_of_the_batch_is_a_step_of_it = a_get_is_a_piece_of_its_batch (alone_at 20) None

a_piece_at_another_stamp_is_not : IsStepOf (asked_at 10 (get key_a ∷ [])) (get_gave 7) → ⊥
a_piece_at_another_stamp_is_not h = differs h.head (λ head. head.at.0 == 20) refl refl

a_move_is_of_any_batch : IsOf asked (Moved Abort)
a_move_is_of_any_batch = tt

what_is_lost_needs_a_loss : LosesOnly ⊥ (Did (Send 1 get_piece Lost)) → ⊥
what_is_lost_needs_a_loss h = h tt

what_is_told_needs_none : LosesOnly ⊥ (Did (get_gave 7))
what_is_told_needs_none h = h

-- ---- where a send goes

a_span_holds_itself : holds_span low.info.desc.span low.info.desc.span ≡ true
a_span_holds_itself = refl

not_a_span_over_its_end : holds_span low.info.desc.span (record { start = key_a; end = key_m }) ≡ true → ⊥
not_a_span_over_its_end h = never h

the_first_row_is_the_route : route_by look ≡ Some low.info
the_first_row_is_the_route = refl

a_send_finds_no_route : route_by (get_gave 7) ≡ None
a_send_finds_no_route = refl

a_piece_goes_to_the_node_with_the_lease : GoesTo low.info 1 get_piece
a_piece_goes_to_the_node_with_the_lease = record { lease = refl; range = refl; held = refl }

not_to_another_replica : GoesTo low.info 3 get_piece → ⊥
not_to_another_replica h = differs h.lease (λ n. n == 3) refl refl

not_under_another_id : GoesTo low.info 1 (piece (alone_at 20) 2 (get key_a ∷ [])) → ⊥
not_under_another_id h = differs h.range (λ n. n == 2) refl refl

not_with_an_item_beyond_the_range : GoesTo low.info 1 (piece (alone_at 20) 1 (get key_a ∷ scan key_a key_m ∷ [])) → ⊥
not_with_an_item_beyond_the_range h = never h.held

a_send_after_its_lookup_is_routed : AreRouted None (Did look ∷ Did (get_gave 7) ∷ [])
a_send_after_its_lookup_is_routed = (tt, (a_piece_goes_to_the_node_with_the_lease, tt))

a_move_between_them_leaves_the_route : AreRouted None (Did look ∷ Moved Abort ∷ Did (get_gave 7) ∷ [])
a_move_between_them_leaves_the_route = (tt, (a_piece_goes_to_the_node_with_the_lease, tt))

a_send_without_a_lookup_is_not : AreRouted None (Did (get_gave 7) ∷ []) → ⊥
a_send_without_a_lookup_is_not h = h.0

a_second_send_needs_a_second_lookup : AreRouted None (Did look ∷ Did (get_gave 7) ∷ Did (get_gave 7) ∷ []) → ⊥
a_second_send_needs_a_second_lookup h = h.1.1.0

a_lost_lookup_finds_no_route : AreRouted None (Did (Look key_a Forward Looked.Lost) ∷ Did (get_gave 7) ∷ []) → ⊥
a_lost_lookup_finds_no_route h = h.1.0

the_second_row_is_no_route : AreRouted None (Did (Look key_a Forward (Looked.Rows (high.info ∷ low.info ∷ []))) ∷ Did (get_gave 7) ∷ []) → ⊥
the_second_row_is_no_route h = differs h.1.0.lease (λ n. n == 1) refl refl

-- ---- a whole call

gave_7 : Accepted
gave_7 = record { head = alone_at 20; item = record { pos = 0; seq = record { 0 = 0 }; request = get key_a }; reply = got 7 }

both : List Happening
both = Did look ∷ Did (get_gave 7) ∷ []

after : Stands
after = record wire { past = both }

a_lookup_and_a_get_are_a_path : Path asked wire after (gave_7 ∷ [])
unfolding asked after both gave_7
a_lookup_and_a_get_are_a_path = record {
  added = both;
  high = (tt, (tt, tt));
  of = (tt, (a_get_is_a_piece_of_its_batch (alone_at 20) None, tt));
  routed = a_send_after_its_lookup_is_routed;
  losses = ((λ h. absurd h), ((λ h. absurd h), tt));
  grown = refl;
  runs = (world, (BothWays, ((refl, refl), refl)), (world, (BothWays, (refl, refl)), refl));
  floor = refl;
  block = refl;
  gives = refl;
}

-- ---- steady worlds

two_ranges_are_steady : Steady world
two_ranges_are_steady = record { current = refl; ids = refl; leases = refl }

two_of_one_id_are_not : Steady (record world { ranges = low ∷ low ∷ [] }) → ⊥
two_of_one_id_are_not h = never h.ids

nor_is_a_lease_without_a_replica : Steady (record world { ranges = record low { info = record (low.info) { lease = record { node = 2; number = 1 } } } ∷ high ∷ [] }) → ⊥
nor_is_a_lease_without_a_replica h = never h.leases

nor_is_an_old_descriptor_that_waits : Steady (record world { armed = low.info.desc ∷ [] }) → ⊥
nor_is_an_old_descriptor_that_waits h = differs h.current (λ ds. length ds == 1) refl refl
