-- Worked examples of the definitions, some that hold and some that must not: where requests act, their numbers, what the rules
-- ask of them, and their parts.
use Rattle.std.proofs.Common.{◌≡◌, ℕ, ◌≤◌, ◌==◌, true, false, List, [], ◌∷◌, replicate, pos, Some, None, refl, lit<, lit≤, ap, length, ◌<◌, arith}
use Rattle.std.specs.List.{list_any, list_all}
use Rattle.ds_base.specs.Order.{bound}
use Rattle.ds_base.specs.declared.value.Dir.TheVariants.{Forward, Reverse}
use Rattle.ds_base.specs.declared.value.Seq.{Seq}
use Rattle.ds_base.specs.declared.value.Value.TheVariants.{Int}
use Rattle.ds_kind.specs.Asks.{acts, fits_all, has_proper_span, has_room, knows_limit, needs_txn, overtakes, takes_number}
use Rattle.ds_kind.specs.Groups.{first_where, groups}
use Rattle.ds_kind.specs.Numbers.{NeverFall, last_number, numbers_from}
use Rattle.ds_kind.specs.Parts.{IsPart, AreParts, dir_of, items_from, may_join, part_of, parts_of}
use Rattle.ds_kind.specs.Reach.{Over}
use Rattle.ds_kind.specs.Request.{reach_of, span_of}
use Rattle.ds_kind.specs.declared.batch.Part.{Part}
use Rattle.ds_kind.specs.declared.request.Request.{Request}
use Rattle.ds_kind.specs.declared.request.Request.TheVariants.{Get, Scan, ReverseScan, Put, DeleteRange, EndTxn, ResolveIntent}

abbrev key_a : List ℕ
key_a = 97 ∷ []

abbrev key_b : List ℕ
key_b = 98 ∷ []

abbrev key_z : List ℕ
key_z = 122 ∷ []

abbrev get : List ℕ → Request
get k = Get (record { key = k })

abbrev put : List ℕ → Request
put k = Put (record { key = k; value = Int (pos 1) })

abbrev scan : List ℕ → List ℕ → Request
scan s e = Scan (record { start = s; end = e })

abbrev scan_back : List ℕ → List ℕ → Request
scan_back s e = ReverseScan (record { start = s; end = e })

abbrev delete_range : Request
delete_range = DeleteRange (record { start = key_a; end = key_z })

abbrev commit : Request
commit = EndTxn (record { key = key_a; commit = true; one_phase = false; parallel = false; in_flight = [] })

abbrev resolve : Request
resolve = ResolveIntent (record { key = key_a; txn = record { 0 = 1 } })

never : false ≡ true → ⊥
never h = cc

-- ---- where requests act

a_point_covers_its_key_alone : span_of (get key_a) ≡ record { start = key_a; end = 97 ∷ 0 ∷ [] }
a_point_covers_its_key_alone = refl

a_scan_covers_its_span : span_of (scan key_a key_z) ≡ record { start = key_a; end = key_z }
a_scan_covers_its_span = refl

a_deletion_acts_over_its_span : reach_of delete_range ≡ Over key_a key_z
a_deletion_acts_over_its_span = refl

-- ---- numbers

abbrev seq : ℕ → Seq
seq n = record { 0 = n }

an_end_takes_no_number : numbers_from 4 (put key_a ∷ commit ∷ []) ≡ seq 5 ∷ seq 5 ∷ []
an_end_takes_no_number = refl

a_resolve_takes_no_number : takes_number resolve ≡ false
a_resolve_takes_no_number = refl

the_last_number_goes_on : last_number 4 (seq 5 ∷ seq 6 ∷ []) ≡ 6
the_last_number_goes_on = refl

without_requests_the_last_number_stays : last_number 4 [] ≡ 4
without_requests_the_last_number_stays = refl

numbers_may_stand_twice : NeverFall 4 (seq 5 ∷ seq 5 ∷ seq 6 ∷ [])
numbers_may_stand_twice = (lit≤ tt, (lit≤ tt, (lit≤ tt, tt)))

numbers_never_fall : NeverFall 4 (seq 5 ∷ seq 4 ∷ []) → ⊥
numbers_never_fall h = let falls : 5 ≤ 4 = h.1.0 in omega (arith, falls)

-- ---- what the rules ask

a_scan_knows_a_limit : knows_limit (scan key_a key_z) ≡ true
a_scan_knows_a_limit = refl

a_put_knows_none : knows_limit (put key_a) ≡ false
a_put_knows_none = refl

an_end_speaks_of_a_transaction : needs_txn commit ≡ true
an_end_speaks_of_a_transaction = refl

a_put_speaks_of_none : needs_txn (put key_a) ≡ false
a_put_speaks_of_none = refl

a_put_acts : acts (put key_a) ≡ true
a_put_acts = refl

a_get_doesnt_act : acts (get key_a) ≡ false
a_get_doesnt_act = refl

-- a key of 64 bytes has one above it, and one of 65 has none
a_long_key_has_room : has_room (replicate 64 97) ≡ true
a_long_key_has_room = refl

the_longest_key_has_none : has_room (replicate 65 97) ≡ false
the_longest_key_has_none = refl

the_bound_has_none : has_room bound ≡ false
the_bound_has_none = refl

an_empty_span_isnt_proper : has_proper_span (scan key_a key_a) ≡ false
an_empty_span_isnt_proper = refl

a_scan_overtakes_what_begins_in_it : overtakes (scan key_a key_z) (get key_b) ≡ true
a_scan_overtakes_what_begins_in_it = refl

it_doesnt_overtake_what_begins_at_its_end : overtakes (scan key_a key_b) (get key_b) ≡ false
it_doesnt_overtake_what_begins_at_its_end = refl

a_get_fits_gets_and_scans : fits_all (get key_a ∷ scan key_a key_z ∷ []) (get key_b) ≡ true
a_get_fits_gets_and_scans = refl

it_doesnt_fit_where_one_of_them_writes : fits_all (get key_a ∷ put key_a ∷ []) (get key_b) ≡ false
it_doesnt_fit_where_one_of_them_writes = refl

-- ---- groups of neighbours

-- each number joins those that are the same
neighbours_are_grouped : groups (λ group n. list_all (λ m. m == n) group) (1 ∷ 1 ∷ 2 ∷ 1 ∷ []) ≡ (1 ∷ 1 ∷ []) ∷ (2 ∷ []) ∷ (1 ∷ []) ∷ []
neighbours_are_grouped = refl

-- the first number that stood before
the_first_repetition : first_where (λ past n. list_any (λ m. m == n) past) (3 ∷ 5 ∷ 3 ∷ 5 ∷ []) ≡ Some 2
the_first_repetition = refl

no_repetition : first_where (λ past n. list_any (λ m. m == n) past) (3 ∷ 5 ∷ []) ≡ None
no_repetition = refl

-- ---- parts

an_end_joins_its_puts : may_join false (put key_a ∷ []) commit ≡ true
an_end_joins_its_puts = refl

an_end_that_is_split_off_doesnt : may_join true (put key_a ∷ []) commit ≡ false
an_end_that_is_split_off_doesnt = refl

an_end_joins_no_other_end : may_join false (commit ∷ []) commit ≡ false
an_end_joins_no_other_end = refl

a_part_with_a_reverse_scan_goes_back : dir_of (get key_a ∷ scan_back key_a key_z ∷ []) ≡ Reverse
a_part_with_a_reverse_scan_goes_back = refl

any_other_goes_forward : dir_of (get key_a ∷ scan key_a key_z ∷ []) ≡ Forward
any_other_goes_forward = refl

-- these requests as one part
abbrev as_part : List Request → Part
as_part rs = part_of (items_from 0 rs (numbers_from 0 rs))

a_put_and_its_end_are_a_part : IsPart false (as_part (put key_a ∷ commit ∷ []))
a_put_and_its_end_are_a_part = record { some = lit< tt; fit = refl; alone_last = refl; apart = λ more. refl; dir = refl }

they_arent_where_the_end_is_split_off : IsPart true (as_part (put key_a ∷ commit ∷ [])) → ⊥
they_arent_where_the_end_is_split_off h = let together : true ≡ false = h.apart (lit< tt) in cc

a_get_and_a_put_are_no_part : IsPart false (as_part (get key_a ∷ put key_b ∷ [])) → ⊥
a_get_and_a_put_are_no_part h = never h.fit

nothing_follows_an_end : IsPart false (as_part (commit ∷ put key_a ∷ [])) → ⊥
nothing_follows_an_end h = never h.fit

no_request_is_no_part : IsPart false (as_part []) → ⊥
no_request_is_no_part h = let some : 0 < 0 = h.some in omega (arith, some)

a_get_and_a_put_are_two_parts : parts_of false (get key_a ∷ put key_b ∷ []) (seq 0 ∷ seq 1 ∷ [])
    ≡ record { items = record { pos = 0; seq = seq 0; request = get key_a } ∷ []; dir = Forward }
    ∷ record { items = record { pos = 1; seq = seq 1; request = put key_b } ∷ []; dir = Forward }
    ∷ []
a_get_and_a_put_are_two_parts = refl

no_request_is_left_out : AreParts false (get key_a ∷ put key_b ∷ []) (seq 0 ∷ seq 1 ∷ []) (as_part (get key_a ∷ []) ∷ []) → ⊥
no_request_is_left_out h = let left : 1 ≡ 2 = ap length h.requests in omega (arith, left)
