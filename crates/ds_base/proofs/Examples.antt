-- Worked examples of the definitions of keys, spans and counts, some that hold and some that must not.
use Rattle.std.proofs.Common.{◌≡◌, ℕ, true, false, List, [], ◌∷◌, refl, Some, None, inl, inr, lit<, arith}
use Rattle.ds_base.specs.Counts.{Rose}
use Rattle.ds_base.specs.Order.{key_lt, key_le, holds, after, bound, max_key, min_key}
use Rattle.ds_base.specs.Ordered.{at_key, between}
use Rattle.ds_base.specs.Number.{weight}

-- a < b, a < a 00, b is not below a
a_before_b : key_lt (97 ∷ []) (98 ∷ []) ≡ true
a_before_b = refl

a_before_its_next : key_lt (97 ∷ []) (after (97 ∷ [])) ≡ true
a_before_its_next = refl

b_not_before_a : key_lt (98 ∷ []) (97 ∷ 255 ∷ []) ≡ false
b_not_before_a = refl

-- ff lies below the bound ff ff, and ff ff 00 does not
ff_below_bound : key_lt (255 ∷ []) bound ≡ true
ff_below_bound = refl

above_bound : key_le (255 ∷ 255 ∷ 0 ∷ []) bound ≡ false
above_bound = refl

-- a span holds its start and not its end
holds_start : holds (97 ∷ []) (99 ∷ []) (97 ∷ []) ≡ true
holds_start = refl

not_its_end : holds (97 ∷ []) (99 ∷ []) (99 ∷ []) ≡ false
not_its_end = refl

-- where [a, c) and [b, d) overlap
later_start : max_key (97 ∷ []) (98 ∷ []) ≡ 98 ∷ []
later_start = refl

earlier_end : min_key (99 ∷ []) (100 ∷ []) ≡ 99 ∷ []
earlier_end = refl

-- of the keys a, b, c those in [b, c)
only_b : between (λ k. k) (98 ∷ []) (99 ∷ []) ((97 ∷ []) ∷ (98 ∷ []) ∷ (99 ∷ []) ∷ []) ≡ (98 ∷ []) ∷ []
only_b = refl

b_is_found : at_key (λ k. k) (98 ∷ []) ((97 ∷ []) ∷ (98 ∷ []) ∷ []) ≡ Some (98 ∷ [])
b_is_found = refl

c_is_not : at_key (λ k. k) (99 ∷ []) ((97 ∷ []) ∷ (98 ∷ []) ∷ []) ≡ None
c_is_not = refl

-- a count rises, or stands at its last value
a_count_rises_by_one : Rose 3 4
a_count_rises_by_one = inl (lit< tt)

at_its_last_value_it_stays : Rose 18446744073709551615 18446744073709551615
at_its_last_value_it_stays = inr (refl, refl)

elsewhere_it_never_stays : Rose 3 3 → ⊥
elsewhere_it_never_stays h = omega arith

it_never_falls : Rose 4 3 → ⊥
it_never_falls h = omega arith

nor_from_its_last_value : Rose 18446744073709551615 0 → ⊥
nor_from_its_last_value h = omega arith
