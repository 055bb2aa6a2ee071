-- Worked examples of descriptors one after another, some that hold and some that must not.
use Rattle.std.proofs.Common.{◌≡◌, ℕ, true, false, cond, List, [], ◌∷◌, Some, None, refl, arith}
use Rattle.ds_base.specs.declared.value.Dir.TheVariants.{Forward}
use Rattle.ds_desc.specs.Contains.{contains}
use Rattle.ds_desc.specs.Descs.{overlap, same_desc, containing, back_from, greatest_id, Newer, GenerationsRise}
use Rattle.ds_desc.specs.declared.desc.RangeDesc.{RangeDesc}

-- the range of this id from one byte up to another, of this generation
abbrev range : ℕ → ℕ → ℕ → ℕ → RangeDesc
range id a b g = record { id = id; span = record { start = a ∷ []; end = b ∷ [] }; nodes = 1 ∷ []; generation = g }

-- ---- two descriptors

neighbours_do_not_overlap : overlap (range 1 97 99 1).span (range 2 99 102 1).span ≡ false
neighbours_do_not_overlap = refl

a_part_overlaps_the_whole : overlap (range 1 97 102 1).span (range 2 99 100 2).span ≡ true
a_part_overlaps_the_whole = refl

a_descriptor_is_itself : same_desc (range 1 97 99 1) (range 1 97 99 1) ≡ true
a_descriptor_is_itself = refl

another_generation_is_another : same_desc (range 1 97 99 1) (range 1 97 99 2) ≡ false
another_generation_is_another = refl

-- ---- a range from a up to f, split at c, and its right part moved

abbrev whole : RangeDesc
whole = range 1 97 102 1

abbrev left : RangeDesc
left = range 1 97 99 2

abbrev right : RangeDesc
right = range 2 99 102 2

abbrev moved_right : RangeDesc
moved_right = record right { nodes = 2 ∷ []; generation = 3 }

abbrev made : List RangeDesc
made = whole ∷ left ∷ right ∷ moved_right ∷ []

the_start_of_the_right_part_was_in_three : containing (99 ∷ []) made ≡ whole ∷ right ∷ moved_right ∷ []
the_start_of_the_right_part_was_in_three = refl

none_back_is_the_newest : back_from 0 (containing (99 ∷ []) made) ≡ Some moved_right
none_back_is_the_newest = refl

two_back_is_the_whole : back_from 2 (containing (99 ∷ []) made) ≡ Some whole
two_back_is_the_whole = refl

three_back_is_none : back_from 3 (containing (99 ∷ []) made) ≡ None
three_back_is_none = refl

-- the left part was never in the right one
one_back_of_the_left_is_the_whole : back_from 1 (containing (97 ∷ []) made) ≡ Some whole
one_back_of_the_left_is_the_whole = refl

the_greatest_id_is_the_right_one : greatest_id made ≡ 2
the_greatest_id_is_the_right_one = refl

-- ---- generations

a_part_is_newer_than_the_whole : GenerationsRise (whole ∷ left ∷ [])
a_part_is_newer_than_the_whole k =
    elim (contains Forward k left.span) as (λ u. Newer (cond (contains Forward k whole.span) (whole ∷ cond u (left ∷ []) []) (cond u (left ∷ []) []))) [
      | true ↦ elim (contains Forward k whole.span) as (λ t. Newer (cond t (whole ∷ left ∷ []) (left ∷ []))) [
        | true ↦ ((omega arith, tt), (tt, tt))
        | false ↦ (tt, tt)
      ]
      | false ↦ elim (contains Forward k whole.span) as (λ t. Newer (cond t (whole ∷ []) [])) [ true ↦ (tt, tt) | false ↦ tt ]
    ]

-- a part of the same generation does not replace the whole
a_part_of_its_generation_is_not : GenerationsRise (whole ∷ range 1 97 99 1 ∷ []) → ⊥
a_part_of_its_generation_is_not h = omega (arith, (h (97 ∷ [])).0.0)

an_older_one_never_comes_after : GenerationsRise (left ∷ whole ∷ []) → ⊥
an_older_one_never_comes_after h = omega (arith, (h (97 ∷ [])).0.0)
