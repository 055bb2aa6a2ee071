-- Where the next range begins.
use Rattle.std.specs.Prelude.{◌≡◌, ℕ, cond, List, [], ◌∷◌, Option, Some, None, refl}
use Rattle.ds_base.specs.Order.{Extent, bound}
use Rattle.ds_base.specs.declared.value.Dir.{Dir}
use Rattle.ds_base.specs.declared.value.Dir.TheVariants.{Forward, Reverse}
use Rattle.ds_desc.specs.Contains.{lies_ahead}

-- where a span ends in a direction
abbrev pub far_end : Dir → Extent → List ℕ
far_end Forward s = s.end
far_end Reverse s = s.start

-- it, if the key space goes on there
abbrev pub next_of : Dir → Extent → Option (List ℕ)
next_of d s = cond (lies_ahead d (far_end d s)) (Some (far_end d s)) None

abbrev middle : Extent
middle = record { start = 98 ∷ []; end = 100 ∷ [] }

forward_the_end : next_of Forward middle ≡ Some (100 ∷ [])
forward_the_end = refl

in_reverse_the_start : next_of Reverse middle ≡ Some (98 ∷ [])
in_reverse_the_start = refl

not_past_the_bound : next_of Forward (record { start = 98 ∷ []; end = bound }) ≡ None
not_past_the_bound = refl

not_below_the_least_key : next_of Reverse (record { start = []; end = 98 ∷ [] }) ≡ None
not_below_the_least_key = refl
