-- Worked examples of the definitions, some that hold and some that must not: the rows of a lookup.
use Rattle.std.proofs.Common.{◌≡◌, true, false, [], ◌∷◌, refl}
use Rattle.ds_base.specs.declared.value.Dir.TheVariants.{Forward, Reverse}
use Rattle.ds_desc.specs.Contains.{FirstContains, lies_ahead}
use Rattle.ds_desc.specs.declared.desc.Info.{Info}
use Rattle.ds_desc.specs.declared.meta.Looked.TheVariants.{Rows, Lost}

-- a range from b up to m
abbrev b_to_m : Info
b_to_m = record {
  desc = record { id = 1; span = record { start = 98 ∷ []; end = 109 ∷ [] }; nodes = 1 ∷ []; generation = 1 };
  lease = record { node = 1; number = 1 };
}

a_row_contains_its_start : FirstContains Forward (98 ∷ []) (Rows (b_to_m ∷ []))
a_row_contains_its_start = refl

in_reverse_it_doesnt : FirstContains Reverse (98 ∷ []) (Rows (b_to_m ∷ [])) → ⊥
in_reverse_it_doesnt h = let starts : false ≡ true = h in cc

a_lookup_without_rows_must_be_lost : FirstContains Forward (98 ∷ []) (Rows []) → ⊥
a_lookup_without_rows_must_be_lost h = let rows : false ≡ true = h in cc

a_lost_lookup_has_no_rows : FirstContains Forward (98 ∷ []) Lost
a_lost_lookup_has_no_rows = tt

keys_lie_ahead_of_the_least_key : lies_ahead Forward [] ≡ true
keys_lie_ahead_of_the_least_key = refl

none_lies_below_it : lies_ahead Reverse [] ≡ false
none_lies_below_it = refl

none_lies_above_the_bound : lies_ahead Forward (255 ∷ 255 ∷ []) ≡ false
none_lies_above_the_bound = refl
