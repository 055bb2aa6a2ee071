-- Worked examples: rows inserted, and which of them is found.
use Rattle.std.proofs.Common.{◌≡◌, ℕ, suc, [], ◌∷◌, Some, refl, arith}
use Rattle.ds_desc.specs.declared.desc.Info.{Info}
use Rattle.ds_cache.specs.Entries.{Cache, cache}
use Rattle.ds_cache.specs.Insert.{put_all}
use Rattle.ds_base.specs.declared.value.Dir.TheVariants.{Forward}
use Rattle.ds_desc.specs.Contains.{FirstContains}
use Rattle.ds_desc.specs.declared.meta.Looked.TheVariants as answers
use Rattle.ds_iter.specs.Seek.{AfterLookup, Lookups, SoughtBy, BegunBy, first_row}
use Rattle.ds_iter.specs.declared.sought.Sought.TheVariants.{Found, Lost}

-- the range from one byte up to another, of this generation
abbrev range : ℕ → ℕ → ℕ → Info
range a b g = record {
  desc = record { id = 1; span = record { start = a ∷ []; end = b ∷ [] }; nodes = 1 ∷ []; generation = g };
  lease = record { node = 1; number = 1 };
}

the_first_row_is_in_front : put_all (range 98 100 3 ∷ range 100 102 3 ∷ []) (cache [] 2 0) ≡ cache ((2, range 98 100 3) ∷ (1, range 100 102 3) ∷ []) 2 2
the_first_row_is_in_front = refl

its_token_is_the_last_one_given : first_row (range 98 100 3 ∷ range 100 102 3 ∷ []) (cache [] 2 0) ≡ Found (range 98 100 3) 2
its_token_is_the_last_one_given = refl

an_older_first_row_has_no_entry : first_row (range 98 100 3 ∷ []) (cache ((1, range 99 100 4) ∷ []) 4 1) ≡ Found (range 98 100 3) 0
an_older_first_row_has_no_entry = refl

without_rows_nothing_is_found : first_row [] (cache [] 2 0) ≡ Lost
without_rows_nothing_is_found = refl

-- a lookup whose answer was lost leaves the cache, and finds nothing
a_lost_answer : AfterLookup answers.Lost (cache [] 2 0) Lost (cache [] 2 0)
a_lost_answer = (refl, refl)

no_range_of_a_lost_answer : AfterLookup answers.Lost (cache [] 2 0) (Found (range 98 100 3) 0) (cache [] 2 0) → ⊥
no_range_of_a_lost_answer h = never h.0
  where
    never : {i : Info} {t : ℕ} → Found i t ≡ Lost → ⊥
    never h = cc

-- without rows a lookup's answer would not contain the key
no_rows_are_no_answer : FirstContains Forward (98 ∷ []) (answers.Rows []) → ⊥
no_rows_are_no_answer h = cc

-- ---- a range that the cache knows, and a directory that counts its lookups

abbrev counted : Lookups ℕ
counted = λ before after k d answer. after ≡ suc before

abbrev known : Cache
known = cache ((1, range 98 100 3) ∷ []) 2 1

a_known_range_is_found : SoughtBy counted Forward (98 ∷ []) (Some (1, range 98 100 3)) known 0 (Found (range 98 100 3) 1) known 0
a_known_range_is_found = (refl, refl, refl)

it_is_not_looked_up : SoughtBy counted Forward (98 ∷ []) (Some (1, range 98 100 3)) known 0 (Found (range 98 100 3) 1) known 1 → ⊥
it_is_not_looked_up h = let none : 1 ≡ 0 = h.2 in omega (arith, none)

nor_before_memory_is_wanting : BegunBy counted Forward (98 ∷ []) (Some (1, range 98 100 3)) known 0 known 1 → ⊥
nor_before_memory_is_wanting h = let none : 1 ≡ 0 = h.1 in omega (arith, none)
