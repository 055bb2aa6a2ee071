-- Worked examples of what happens to ranges, some that hold and some that must not: splits, merges, leases, moves and old
-- descriptors.
use Rattle.std.proofs.Common.{◌≡◌, ℕ, false, List, [], ◌∷◌, Option, Some, None, refl, ap, arith}
use Rattle.std.specs.List.{list_all}
use Rattle.ds_base.specs.Order.{bound}
use Rattle.ds_base.specs.declared.value.Dir.TheVariants.{Forward}
use Rattle.ds_desc.specs.Descs.{greatest_id}
use Rattle.ds_desc.specs.declared.desc.Info.{Info}
use Rattle.ds_desc.specs.declared.desc.RangeDesc.{RangeDesc}
use Rattle.ds_cell.specs.Ask.{Cell}
use Rattle.ds_rule.specs.Keeping.{IsNewest}
use Rattle.ds_rule.specs.Shifts.{split_at, merge_at, lease_to, move_to, stale_by, foreign_at}
use Rattle.ds_rule.specs.Steady.{has_lease, infos_in}
use Rattle.ds_rule.specs.World.{World, Range, look_rows}
use Rattle.ds_rule.proofs.Examples.{holding, key_a, key_b, key_g, key_m, key_z, version}

-- a range of nodes 1 to 3, by its id, span, generation and lease
abbrev desc : ℕ → List ℕ → List ℕ → ℕ → RangeDesc
desc id s e g = record { id = id; span = record { start = s; end = e }; nodes = 1 ∷ 2 ∷ 3 ∷ []; generation = g }

abbrev leased : RangeDesc → ℕ → ℕ → Info
leased d n l = record { desc = d; lease = record { node = n; number = l } }

abbrev range : RangeDesc → List Cell → Range
range d cells = record { info = leased d 1 1; cells = cells }

abbrev at_a : Cell
at_a = (key_a, holding (version 4 7 ∷ []))

abbrev at_m : Cell
at_m = (key_m, holding (version 4 9 ∷ []))

abbrev low_desc : RangeDesc
low_desc = desc 1 [] key_g 1

abbrev high_desc : RangeDesc
high_desc = desc 2 key_g bound 1

abbrev of_ranges : List Range → List RangeDesc → World
of_ranges rs ds = record { ranges = rs; descs = ds; armed = []; records = []; copies = []; count = 0 }

-- two ranges with the border g: at a stands a 7, and at m a 9
abbrev world : World
world = of_ranges (range low_desc (at_a ∷ []) ∷ range high_desc (at_m ∷ []) ∷ []) (low_desc ∷ high_desc ∷ [])

-- ---- splits

a_range_is_split : split_at key_b world ≡ of_ranges (range (desc 1 [] key_b 2) (at_a ∷ []) ∷ range (desc 3 key_b key_g 2) [] ∷ range high_desc (at_m ∷ []) ∷ []) (low_desc ∷ high_desc ∷ desc 1 [] key_b 2 ∷ desc 3 key_b key_g 2 ∷ [])
a_range_is_split = refl

-- what stands at the key goes to the right
the_key_goes_to_the_right : (split_at key_m world).ranges ≡ range low_desc (at_a ∷ []) ∷ range (desc 2 key_g key_m 2) [] ∷ range (desc 3 key_m bound 2) (at_m ∷ []) ∷ []
the_key_goes_to_the_right = refl

no_split_at_a_start : split_at key_g world ≡ world
no_split_at_a_start = refl

none_at_the_bound : split_at bound world ≡ world
none_at_the_bound = refl

abbrev oldest : World
oldest = of_ranges (range (desc 1 [] bound 4294967295) [] ∷ []) (desc 1 [] bound 4294967295 ∷ [])

no_split_past_the_last_generation : split_at key_g oldest ≡ oldest
no_split_past_the_last_generation = refl

abbrev used_up : World
used_up = of_ranges (range (desc 1 [] bound 1) [] ∷ []) (desc 4294967295 [] bound 1 ∷ desc 1 [] bound 1 ∷ [])

no_split_past_the_last_id : split_at key_g used_up ≡ used_up
no_split_past_the_last_id = refl

-- ---- merges

two_are_merged : merge_at key_b world ≡ of_ranges (range (desc 1 [] bound 2) (at_a ∷ at_m ∷ []) ∷ []) (low_desc ∷ high_desc ∷ desc 1 [] bound 2 ∷ [])
two_are_merged = refl

the_last_has_no_neighbour : merge_at key_m world ≡ world
the_last_has_no_neighbour = refl

-- the right part was split once more, so its generation counts
abbrev uneven : World
uneven = of_ranges (range (desc 1 [] key_g 2) [] ∷ range (desc 3 key_g bound 5) [] ∷ []) []

the_greater_generation_counts : (merge_at key_a uneven).ranges ≡ range (desc 1 [] bound 6) [] ∷ []
the_greater_generation_counts = refl

-- a split and a merge make two generations, and an id that no range has any more
there_and_back : merge_at key_a (split_at key_b world) ≡ of_ranges (range (desc 1 [] key_g 3) (at_a ∷ []) ∷ range high_desc (at_m ∷ []) ∷ []) (low_desc ∷ high_desc ∷ desc 1 [] key_b 2 ∷ desc 3 key_b key_g 2 ∷ desc 1 [] key_g 3 ∷ [])
there_and_back = refl

its_id_is_never_given_again : greatest_id (merge_at key_a (split_at key_b world)).descs ≡ 3
its_id_is_never_given_again = refl

-- ---- leases

a_lease_moves : infos_in (lease_to key_m 3 world) ≡ leased low_desc 1 1 ∷ leased high_desc 3 2 ∷ []
a_lease_moves = refl

its_holder_has_it : lease_to key_m 1 world ≡ world
its_holder_has_it = refl

no_replica_no_lease : lease_to key_m 4 world ≡ world
no_replica_no_lease = refl

-- ---- moves

abbrev moved_desc : List ℕ → RangeDesc
moved_desc ns = record high_desc { nodes = ns; generation = 2 }

a_holder_that_stays_keeps_its_lease : infos_in (move_to key_m (4 ∷ 1 ∷ []) world) ≡ leased low_desc 1 1 ∷ leased (moved_desc (4 ∷ 1 ∷ [])) 1 1 ∷ []
a_holder_that_stays_keeps_its_lease = refl

one_that_leaves_gives_it_to_the_first : infos_in (move_to key_m (4 ∷ 2 ∷ []) world) ≡ leased low_desc 1 1 ∷ leased (moved_desc (4 ∷ 2 ∷ [])) 4 2 ∷ []
one_that_leaves_gives_it_to_the_first = refl

no_move_to_the_same : move_to key_m (1 ∷ 2 ∷ 3 ∷ []) world ≡ world
no_move_to_the_same = refl

another_order_is_a_move : (move_to key_m (3 ∷ 2 ∷ 1 ∷ []) world).descs ≡ low_desc ∷ high_desc ∷ moved_desc (3 ∷ 2 ∷ 1 ∷ []) ∷ []
another_order_is_a_move = refl

-- a lease that isn't raised: the last number may stay, where the holder does
abbrev last_lease : World
last_lease = of_ranges (record { info = leased low_desc 1 4294967295; cells = [] } ∷ []) []

the_last_lease_may_stay : infos_in (move_to key_a (1 ∷ []) last_lease) ≡ leased (record low_desc { nodes = 1 ∷ []; generation = 2 }) 1 4294967295 ∷ []
the_last_lease_may_stay = refl

but_it_never_goes_on : move_to key_a (2 ∷ []) last_lease ≡ last_lease
but_it_never_goes_on = refl

-- ---- old descriptors

-- two back from the part that was merged stands the first one
abbrev twice : World
twice = merge_at key_a (split_at key_b world)

two_back_stands_the_first : (stale_by key_a 2 twice).armed ≡ low_desc ∷ []
two_back_stands_the_first = refl

there_is_none_three_back : stale_by key_a 3 twice ≡ twice
there_is_none_three_back = refl

-- the right part is one back of the keys that it had
a_part_is_one_back_of_its_own_keys : (stale_by key_b 1 twice).armed ≡ desc 3 key_b key_g 2 ∷ []
a_part_is_one_back_of_its_own_keys = refl

a_lookup_is_answered_so : look_rows (stale_by key_a 2 twice) key_a Forward ≡ record { desc = low_desc; lease = record { node = 1; number = 0 } } ∷ []
a_lookup_is_answered_so = refl

-- ---- writes of others

a_write_goes_to_the_range_of_its_key : (foreign_at key_z (version 6 5) world).ranges ≡ range low_desc (at_a ∷ []) ∷ range high_desc (at_m ∷ (key_z, holding (version 6 5 ∷ [])) ∷ []) ∷ []
a_write_goes_to_the_range_of_its_key = refl

-- ---- what every world keeps

-- the range was split since
an_old_descriptor_is_not_the_newest : IsNewest (low_desc ∷ desc 1 [] key_b 2 ∷ []) (range low_desc []) → ⊥
an_old_descriptor_is_not_the_newest h = let same : 2 ≡ 1 = ap generation_of (h key_a refl) in omega (arith, same)
  where
    generation_of : Option RangeDesc → ℕ
    generation_of None = 0
    generation_of (Some d) = d.generation

-- a lease with a node that is no replica
no_such_lease : list_all has_lease (infos_in (of_ranges (record { info = leased low_desc 4 1; cells = [] } ∷ []) [])) ≡ false
no_such_lease = refl
