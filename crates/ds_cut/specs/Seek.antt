-- The key at which items are sought, found item by item.
use Rattle.std.specs.Prelude.{◌≡◌, ℕ, Bool, true, List, ◌∷◌, [], Option, Some, None, refl}
use Rattle.ds_base.specs.Order.{key_le, key_lt, max_key, min_key}
use Rattle.ds_base.specs.declared.value.Dir.{Dir}
use Rattle.ds_base.specs.declared.value.Dir.TheVariants.{Forward, Reverse}
use Rattle.ds_kind.specs.Asks.{is_proper}
use Rattle.ds_kind.specs.Reach.{Reach, At, Over, extent_of, reach_of_bounds}
use Rattle.ds_kind.specs.Request.{reach_of}
use Rattle.ds_kind.specs.declared.batch.Item.{Item}
use Rattle.ds_kind.specs.declared.kind.Bounds.{Bounds}

-- where a reach is met first, going in this direction
abbrev pub near_end : Dir → Reach → List ℕ
near_end Forward r = (extent_of r).start
near_end Reverse r = (extent_of r).end

-- which of two keys is met first
abbrev pub first_met : Dir → List ℕ → List ℕ → List ℕ
first_met Forward a b = min_key a b
first_met Reverse a b = max_key a b

-- the key that is met first, with one reach more
abbrev pub first_with : Dir → Option (List ℕ) → Reach → List ℕ
first_with d None r = near_end d r
first_with d (Some k) r = first_met d k (near_end d r)

-- the key that is met first, with further items
abbrev pub first_over : Dir → Option (List ℕ) → List Item → Option (List ℕ)
first_over d k [] = k
first_over d k (i ∷ is) = first_over d (Some (first_with d k (reach_of i.request))) is

abbrev pub near_end_of : Dir → Option Bounds → Option (List ℕ)
near_end_of d None = None
near_end_of d (Some b) = Some (near_end d (reach_of_bounds b))

-- where the result is met is where the first of two bounds is
abbrev pub IsMetFirst : Dir → Bounds → Bounds → Bounds → Type 0
IsMetFirst d one other first = near_end d (reach_of_bounds first) ≡ first_met d (near_end d (reach_of_bounds one)) (near_end d (reach_of_bounds other))

-- the result is proper where both are
abbrev pub StaysProper : Bounds → Bounds → Bounds → Type 0
StaysProper one other result = is_proper (reach_of_bounds one) ≡ true → is_proper (reach_of_bounds other) ≡ true → is_proper (reach_of_bounds result) ≡ true

-- whether the first reach ends above the other, told without the key after a point
abbrev pub ends_above : Reach → Reach → Bool
ends_above (At a) (At b) = key_le b a
ends_above (At a) (Over s e) = key_le e a
ends_above (Over s e) (At b) = key_lt b e
ends_above (Over s e) (Over t f) = key_le f e

-- whether the first reach is met before the other
abbrev pub comes_first : Dir → Reach → Reach → Bool
comes_first Forward a b = key_le (extent_of a).start (extent_of b).start
comes_first Reverse a b = ends_above a b

a_point_from_below : near_end Forward (At (97 ∷ [])) ≡ 97 ∷ []
a_point_from_below = refl

a_point_from_above : near_end Reverse (At (97 ∷ [])) ≡ 97 ∷ 0 ∷ []
a_point_from_above = refl

the_greater_from_above : first_with Reverse (Some (98 ∷ [])) (Over (97 ∷ []) (99 ∷ [])) ≡ 99 ∷ []
the_greater_from_above = refl
