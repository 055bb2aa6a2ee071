-- Worked examples of the definitions: what overlaps, what is found, and what an insertion does.
use Rattle.std.proofs.Common.{◌≡◌, ℕ, true, false, List, [], ◌∷◌, Some, None, refl, arith}
use Rattle.ds_base.specs.declared.value.Dir.TheVariants.{Forward, Reverse}
use Rattle.ds_desc.specs.declared.desc.Info.{Info}
use Rattle.ds_cache.specs.declared.inserted.Inserted.TheVariants.{Older, Renewed, Added, Spent}
use Rattle.ds_desc.specs.Descs.{overlap}
use Rattle.ds_base.proofs.SmallFacts.{none_some, some_same}
use Rattle.ds_cache.specs.Entries.{Entry, Cache, cache, found, to_front, without, NoOverlap, IsSound, IsIndex}
use Rattle.ds_cache.specs.Insert.{put_in, with_lease, leased, is_later_than, PutFrom}
use Rattle.ds_cache.specs.Uses.{Fall, used_later}
use Rattle.ds_cache.proofs.Added.{sound_empty}

-- the range from one byte up to another, of this generation, with this number of its lease
abbrev range : ℕ → ℕ → ℕ → ℕ → Info
range a b g l = record {
  desc = record { id = 1; span = record { start = a ∷ []; end = b ∷ [] }; nodes = 1 ∷ []; generation = g };
  lease = record { node = 1; number = l };
}

neighbours_do_not_overlap : overlap (range 97 99 1 1).desc.span (range 99 102 1 1).desc.span ≡ false
neighbours_do_not_overlap = refl

abbrev two : Cache
two = cache ((2, range 99 102 1 1) ∷ (1, range 97 99 1 1) ∷ []) 2 2

abbrev one : Cache
one = cache ((3, range 98 100 2 1) ∷ []) 2 3

both_go : put_in (range 98 100 2 1) two ≡ record { inserted = Added; token = 3; after = one }
both_go = refl

an_equal_generation_is_older : put_in (range 97 99 2 1) one ≡ record { inserted = Older 2; token = 0; after = one }
an_equal_generation_is_older = refl

the_later_lease_stands : put_in (range 98 100 2 4) one ≡ record { inserted = Renewed; token = 3; after = cache ((3, range 98 100 2 4) ∷ []) 2 3 }
the_later_lease_stands = refl

the_last_goes : put_in (range 102 103 1 1) two ≡ record { inserted = Added; token = 3; after = cache ((3, range 102 103 1 1) ∷ (2, range 99 102 1 1) ∷ []) 2 3 }
the_last_goes = refl

no_serial_is_left : put_in (range 97 98 1 1) (cache [] 2 18446744073709551615) ≡ record { inserted = Spent; token = 0; after = cache [] 2 18446744073709551615 }
no_serial_is_left = refl

a_start_is_found : found Forward (99 ∷ []) two.entries ≡ Some (2, range 99 102 1 1)
a_start_is_found = refl

in_reverse_an_end_is : found Reverse (99 ∷ []) two.entries ≡ Some (1, range 97 99 1 1)
in_reverse_an_end_is = refl

in_reverse_a_start_is_not : found Reverse (98 ∷ []) one.entries ≡ None
in_reverse_a_start_is_not = refl

-- of two that are newer, the generation of the one used last is told
of_two_newer_the_last_used : put_in (range 98 100 3 1) (cache ((2, range 99 102 5 1) ∷ (1, range 97 99 7 1) ∷ []) 2 2)
    ≡ record { inserted = Older 5; token = 0; after = cache ((2, range 99 102 5 1) ∷ (1, range 97 99 7 1) ∷ []) 2 2 }
of_two_newer_the_last_used = refl

-- the range of the one entry, on another node
abbrev moved : Info
moved = record {
  desc = record { id = 1; span = record { start = 98 ∷ []; end = 100 ∷ [] }; nodes = 2 ∷ []; generation = 2 };
  lease = record { node = 2; number = 2 };
}

other_replicas_are_another_descriptor : put_in moved one ≡ record { inserted = Older 2; token = 0; after = one }
other_replicas_are_another_descriptor = refl

-- the range of the one entry, with the lease at this node, of this number
abbrev leased_to : ℕ → ℕ → Info
leased_to n l = with_lease (record { node = n; number = l }) (range 98 100 2 1)

an_equal_number_is_no_later_lease : put_in (leased_to 2 1) one ≡ record { inserted = Renewed; token = 3; after = one }
an_equal_number_is_no_later_lease = refl

a_later_lease_is_told : leased 3 (record { node = 2; number = 2 }) one.entries ≡ (3, leased_to 2 2) ∷ []
a_later_lease_is_told = refl

an_equal_one_changes_nothing : leased 3 (record { node = 2; number = 1 }) one.entries ≡ one.entries
an_equal_one_changes_nothing = refl

nor_is_it_later : is_later_than (record { node = 2; number = 1 }) (Some (range 98 100 2 1)) ≡ false
nor_is_it_later = refl

the_next_number_is : is_later_than (record { node = 2; number = 2 }) (Some (range 98 100 2 1)) ≡ true
the_next_number_is = refl

a_found_entry_goes_to_the_front : to_front (Some (1, range 97 99 1 1)) two.entries ≡ (1, range 97 99 1 1) ∷ (2, range 99 102 1 1) ∷ []
a_found_entry_goes_to_the_front = refl

one_entry_is_taken_out : without 2 two.entries ≡ (1, range 97 99 1 1) ∷ []
one_entry_is_taken_out = refl

the_serial_0_takes_out_none : without 0 two.entries ≡ two.entries
the_serial_0_takes_out_none = refl

-- ---- what every cache keeps

an_empty_cache_is_sound : IsSound (cache [] 1 0)
an_empty_cache_is_sound = sound_empty 1 [] refl (omega arith)

abbrev overlapping : List Entry
overlapping = (2, range 98 100 1 1) ∷ (1, range 97 99 1 1) ∷ []

two_that_overlap_are_not_apart : NoOverlap overlapping → ⊥
two_that_overlap_are_not_apart h = let one : 2 ≡ 1 = h 2 1 (range 98 100 1 1) (range 97 99 1 1) refl refl refl in omega (arith, one)

nor_is_their_cache_sound : IsSound (cache overlapping 2 2) → ⊥
nor_is_their_cache_sound s = two_that_overlap_are_not_apart s.apart

abbrev only : List Entry
only = (1, range 97 99 1 1) ∷ []

an_index_without_a_start : IsIndex only [] → ⊥
an_index_without_a_start x = none_some 1 (x.each 1 (range 97 99 1 1) refl)

an_index_with_a_start_that_is_gone : IsIndex [] ((97 ∷ [], 1) ∷ []) → ⊥
an_index_with_a_start_that_is_gone x = let on = x.only (97 ∷ []) 1 refl in none_some on.0 on.1

-- ---- when each was last used

-- the entry of serial 2 was used last
abbrev numbers : List (ℕ × ℕ)
numbers = (1, 4) ∷ (2, 7) ∷ []

the_uses_fall : Fall 8 numbers two.entries
the_uses_fall = (7, refl, omega arith, (4, refl, omega arith, tt))

in_another_order_they_rise : Fall 8 numbers (to_front (Some (1, range 97 99 1 1)) two.entries) → ⊥
in_another_order_they_rise h =
    let u : 4 ≡ h.0 = some_same 4 h.0 h.1 in
    let v : 7 ≡ h.3.0 = some_same 7 h.3.0 h.3.1 in
    let low = h.3.2 in
    omega (arith, u, v, low)

an_entry_has_a_number : Fall 8 ((2, 7) ∷ []) two.entries → ⊥
an_entry_has_a_number h = none_some h.3.0 h.3.1

the_one_used_last_stays : used_later (Some (7, 5)) (4, 9) ≡ (7, 5)
the_one_used_last_stays = refl

the_one_used_last_comes : used_later (Some (4, 9)) (7, 5) ≡ (7, 5)
the_one_used_last_comes = refl

-- ---- rows, after want of memory

the_last_row_went_in : PutFrom (range 97 98 1 1 ∷ range 98 99 1 1 ∷ []) (cache [] 2 0) (cache ((1, range 98 99 1 1) ∷ []) 2 1)
the_last_row_went_in = (1, refl)
