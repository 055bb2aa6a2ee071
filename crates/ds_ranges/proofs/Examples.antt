-- Worked examples of the definitions, some that hold and some that must not.
use Rattle.std.proofs.Common.{◌≡◌, ℕ, ◌<◌, ◌==◌, true, false, List, [], ◌∷◌, Some, None, refl, sym, ap, subst, length, get_or, arith}
use Rattle.ds_base.specs.Order.{bound, key_le}
use Rattle.ds_base.proofs.SmallFacts.{some_same}
use Rattle.ds_base.proofs.TestFacts.{differs}
use Rattle.ds_desc.specs.declared.desc.RangeDesc.{RangeDesc}
use Rattle.ds_rule.specs.Shifts.{lease_to, merge_at, split_at}
use Rattle.ds_rule.specs.World.{Range, end_of, holds_key}
use Rattle.ds_ranges.specs.Layout.{Became, Layout, layout, own_descs}
use Rattle.ds_ranges.specs.Places.{IsFirst, IsFirstOf, IsPoint}
use Rattle.ds_ranges.specs.Slots.{held}
use Rattle.ds_ranges.specs.Sound.{PlaceIsNoted, bare, noted_desc}

-- a range of nodes 1 and 2 with its lease at 1, by its id, span and generation
abbrev range : ℕ → List ℕ → List ℕ → ℕ → Range
range id s e g = record { info = record { desc = record { id = id; span = record { start = s; end = e }; nodes = 1 ∷ 2 ∷ []; generation = g }; lease = record { node = 1; number = 1 } }; cells = [] }

abbrev key_b : List ℕ
key_b = 98 ∷ []

abbrev key_g : List ℕ
key_g = 103 ∷ []

-- two ranges with the border g
abbrev low : Range
low = range 1 [] key_g 1

abbrev high : Range
high = range 2 key_g bound 1

abbrev both : List Range
both = low ∷ high ∷ []

abbrev first : Layout
first = layout both (own_descs both)

-- ---- what lies in a slot

a_slot_is_its_range : held (Some low) ≡ low
a_slot_is_its_range = refl

not_the_next_one : held (Some low) ≡ high → ⊥
not_the_next_one h = differs h (λ r. r.info.desc.id == 1) refl refl

-- ---- the first that passes

g_is_in_the_second : IsFirst (holds_key key_g) both 1
g_is_in_the_second = (refl, refl)

g_is_not_in_the_first : IsFirst (holds_key key_g) both 0 → ⊥
g_is_not_in_the_first h = let held : false ≡ true = h in cc

no_third_range : IsFirst (holds_key key_g) both 2 → ⊥
no_third_range h = h.1.1

none_holds_the_bound : IsFirstOf (holds_key bound) both None
none_holds_the_bound = (refl, (refl, tt))

some_range_holds_b : IsFirstOf (holds_key key_b) both None → ⊥
some_range_holds_b h = let out : true ≡ false = h.0 in cc

-- one range ends at g or below it
one_ends_at_g : IsPoint (λ r. key_le (end_of r) key_g) both 1
one_ends_at_g = (
  λ n d a b. let same : n ≡ 0 = omega arith in subst (λ m. key_le (end_of (get_or both m d)) key_g ≡ true) (sym same) refl,
  λ n d a b. let less : n < 2 = b in let same : n ≡ 1 = omega (arith, a, less) in subst (λ m. key_le (end_of (get_or both m d)) key_g ≡ false) (sym same) refl,
)

not_none : IsPoint (λ r. key_le (end_of r) key_g) both 0 → ⊥
not_none h = let past : true ≡ false = h.1 0 low (omega arith) (omega arith) in cc

-- ---- what is noted

the_second_is_noted : PlaceIsNoted (0 ∷ 0 ∷ 1 ∷ []) (own_descs both) high.info.desc
the_second_is_noted = refl

nothing_is_noted_of_the_id_3 : noted_desc 3 (0 ∷ 0 ∷ 1 ∷ []) (own_descs both) ≡ None
nothing_is_noted_of_the_id_3 = refl

not_another_place : PlaceIsNoted (0 ∷ 1 ∷ 1 ∷ []) (own_descs both) low.info.desc → ⊥
not_another_place h =
    let same : high.info.desc ≡ low.info.desc = some_same high.info.desc low.info.desc h in
    let ids : ◌≡◌ {A = ℕ} 2 1 = ap (λ (d : RangeDesc). d.id) same in
    absurd (omega arith)

-- ---- what became of a layout

abbrev parts : List Range
parts = range 1 [] key_b 2 ∷ range 3 key_b key_g 2 ∷ high ∷ []

abbrev after_split : Layout
after_split = layout parts (low.info.desc ∷ high.info.desc ∷ (range 1 [] key_b 2).info.desc ∷ (range 3 key_b key_g 2).info.desc ∷ [])

it_was_split_at_b : Became (split_at key_b) first after_split
it_was_split_at_b w = refl

something_was_split : Became (split_at key_b) first first → ⊥
something_was_split h =
    let counts : ◌≡◌ {A = ℕ} 2 3 = ap (λ w. length w.ranges) (h bare) in absurd (omega arith)

no_split_at_a_start : Became (split_at key_g) first first
no_split_at_a_start w = refl

no_merge_at_the_last : Became (merge_at key_g) first first
no_merge_at_the_last w = refl

no_lease_to_another_node : Became (lease_to key_b 3) first first
no_lease_to_another_node w = refl

abbrev lease_of : List Range → ℕ
lease_of [] = 0
lease_of (r ∷ rs) = r.info.lease.node

a_replica_takes_the_lease : Became (lease_to key_b 2) first first → ⊥
a_replica_takes_the_lease h =
    let nodes : ◌≡◌ {A = ℕ} 1 2 = ap (λ w. lease_of w.ranges) (h bare) in absurd (omega arith)
