-- Worked examples of what events promise, some that hold and some that must not.
use Rattle.std.proofs.Common.{◌≡◌, ℕ, ◌==◌, Bool, false, List, [], ◌∷◌, length, refl}
use Rattle.ds_cell.specs.Ask.{Cell}
use Rattle.ds_rule.specs.declared.event.Event.TheVariants.{Abort, Move}
use Rattle.ds_rule.specs.Moves.{counted, moved}
use Rattle.ds_rule.specs.Shifts.{foreign_at, lease_to, split_at, stale_by}
use Rattle.ds_rule.specs.World.{Range}
use Rattle.ds_world.specs.Laws.{GoesBeside, HasReplicas, InDifferentRanges, IsNoEvent, KeepsAll, LeavesContents, LeavesDescs, LeavesRest}
use Rattle.ds_rule.proofs.Examples.{key_a, key_b, key_m, world, version, differs, never}
use Rattle.ds_rule.proofs.ExamplesOfMoves.{two_ranges_are_kept}

abbrev second_has_two : List Cell → Bool
second_has_two [] = false
second_has_two (c ∷ []) = false
second_has_two (c ∷ d ∷ cs) = length (d.1).versions == 2

abbrev first_lease : List Range → ℕ
first_lease [] = 0
first_lease (r ∷ rs) = r.info.lease.number

abbrev second_lease : List Range → ℕ
second_lease [] = 0
second_lease (r ∷ rs) = first_lease rs

-- ---- what is left

a_split_makes_descriptors : LeavesDescs (split_at key_m) → ⊥
a_split_makes_descriptors h = differs (h world) (λ ds. length ds == 4) refl refl

a_foreign_write_changes_what_is_held : LeavesContents (foreign_at key_m (version 20 1)) → ⊥
a_foreign_write_changes_what_is_held h = differs (h world two_ranges_are_kept) second_has_two refl refl

an_event_is_counted : LeavesRest (λ w. moved w Abort) → ⊥
an_event_is_counted h = differs (h world) (λ w. w.count == 1) refl refl

so_it_is_one : IsNoEvent counted → ⊥
so_it_is_one h = differs (h world).2 (λ n. n == 1) refl refl

an_old_descriptor_is_armed : LeavesRest (stale_by key_a 0) → ⊥
an_old_descriptor_is_armed h = differs (h world) (λ w. length w.armed == 1) refl refl

-- ---- what every world keeps

no_world_without_ranges : KeepsAll (λ w. record w { ranges = [] }) → ⊥
no_world_without_ranges h = differs (h world two_ranges_are_kept).tiled (λ k. length k == 0) refl refl

no_move_to_no_node : HasReplicas (Move key_a []) → ⊥
no_move_to_no_node h = never h

-- ---- either order

these_are_in_different_ranges : InDifferentRanges key_a key_m world
these_are_in_different_ranges = (refl, (refl, tt))

these_are_not : InDifferentRanges key_a key_b world → ⊥
these_are_not h = differs h.0 (λ b. b) refl refl

two_leases_of_one_range_dont_commute : lease_to key_a 3 (lease_to key_b 1 world) ≡ lease_to key_b 1 (lease_to key_a 3 world) → ⊥
two_leases_of_one_range_dont_commute h = differs h (λ w. first_lease w.ranges == 2) refl refl

a_lease_and_a_split_of_two_ranges_commute : lease_to key_a 3 (split_at key_m world) ≡ split_at key_m (lease_to key_a 3 world)
a_lease_and_a_split_of_two_ranges_commute = refl

-- before the split the lease reaches both parts, and after it the one with its key alone
no_lease_beside_a_split_of_its_range : GoesBeside (lease_to key_a 3) (split_at key_b) → ⊥
no_lease_beside_a_split_of_its_range h = differs (h world) (λ w. second_lease w.ranges == 1) refl refl
