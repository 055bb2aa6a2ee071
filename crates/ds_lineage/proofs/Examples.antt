-- Worked examples of the definitions, some that hold and some that must not.
use Rattle.std.proofs.Common.{◌≡◌, ℕ, true, false, List, [], ◌∷◌, refl, subst}
use Rattle.ds_base.specs.Order.{key_lt}
use Rattle.ds_base.proofs.SmallFacts.{some_same}
use Rattle.ds_desc.specs.declared.desc.RangeDesc.{RangeDesc}
use Rattle.ds_lineage.specs.Last.{IsLastAt, IsNewestAt, Begins, Follows, Joins}
use Rattle.ds_lineage.proofs.Spans.{begins-first, follows-kept, follows-newest, joins-neighbours, newest-kept, newest-new}

-- the range of this id from one byte up to another, of this generation
abbrev range : ℕ → ℕ → ℕ → ℕ → RangeDesc
range id a b g = record { id = id; span = record { start = a ∷ []; end = b ∷ [] }; nodes = 1 ∷ []; generation = g }

-- ---- a range from a up to f, split at c, and merged again

abbrev whole : RangeDesc
whole = range 1 97 102 1

abbrev left : RangeDesc
left = range 1 97 99 2

abbrev right : RangeDesc
right = range 2 99 102 2

abbrev split : List RangeDesc
split = whole ∷ left ∷ right ∷ []

-- at b the left part is the last, at c the right one
b_is_in_the_left_part : IsLastAt split (98 ∷ []) 1
b_is_in_the_left_part = (refl, refl)

c_is_in_the_right_part : IsLastAt split (99 ∷ []) 2
c_is_in_the_right_part = (refl, refl)

-- the whole contains b, and the left part after it does too
the_whole_is_not_the_last : IsLastAt split (98 ∷ []) 0 → ⊥
the_whole_is_not_the_last h = let one : left ∷ [] ≡ [] = h.1 in cc

-- none after the right part contains b, nor does it itself
the_right_part_does_not_contain_b : IsLastAt split (98 ∷ []) 2 → ⊥
the_right_part_does_not_contain_b h = let out : false ≡ true = h.0 in cc

no_descriptor_stands_there : IsLastAt split (98 ∷ []) 3 → ⊥
no_descriptor_stands_there h = h

the_whole_begins : Begins [] whole.span
the_whole_begins = begins-first whole.span

the_left_part_begins_nothing : Begins (whole ∷ []) left.span → ⊥
the_left_part_begins_nothing h = let one : whole ∷ [] ≡ [] = h (98 ∷ []) refl in cc

left_follows : Follows (whole ∷ []) left.span 0
left_follows = follows-newest (whole ∷ []) left.span whole 0 refl refl (newest-new [] whole)

right_follows : Follows (whole ∷ left ∷ []) right.span 0
right_follows =
    follows-kept (whole ∷ []) right.span 0 left refl (follows-newest (whole ∷ []) right.span whole 0 refl refl (newest-new [] whole))

-- the left part doesn't contain c
right_does_not_follow_the_left_part : Follows (whole ∷ left ∷ []) right.span 1 → ⊥
right_does_not_follow_the_left_part h = let out : false ≡ true = (h (99 ∷ []) refl).0 in cc

-- the left part stays the newest beside the right one
left_is_the_newest : IsNewestAt split left 1
left_is_the_newest = newest-kept (whole ∷ left ∷ []) left right 1 refl (newest-new (whole ∷ []) left)

-- at b the left part came after the whole
the_whole_is_not_the_newest : IsNewestAt (whole ∷ left ∷ []) whole 0 → ⊥
the_whole_is_not_the_newest h = let one : left ∷ [] ≡ [] = (h.last (98 ∷ []) refl).1 in cc

the_merged_one_joins : Joins split (range 1 97 102 3).span 1 2
the_merged_one_joins =
    joins-neighbours split left right 1 2 refl left_is_the_newest (newest-new (whole ∷ left ∷ []) right)

-- below its start the right part is not the last, nor is the left one from there on
not_the_other_way_round : Joins split (range 1 97 102 3).span 2 1 → ⊥
not_the_other_way_round h =
    let start : key_lt (101 ∷ []) h.second.span.start ≡ false = subst (λ z. key_lt (101 ∷ []) z.span.start ≡ false) (some_same left h.second h.there) refl in
    let out : false ≡ true = (h.from (101 ∷ []) refl start).0 in cc
