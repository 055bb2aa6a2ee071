-- Which descriptor contains a key, going forward or in reverse.
use Rattle.std.specs.Prelude.{◌≡◌, ℕ, Bool, true, false, ◌&&◌, List, [], ◌∷◌, refl}
use Rattle.ds_base.specs.Order.{Extent, key_lt, key_le, holds, bound}
use Rattle.ds_base.specs.declared.value.Dir.{Dir}
use Rattle.ds_base.specs.declared.value.Dir.TheVariants.{Forward, Reverse}
use Rattle.ds_desc.specs.declared.desc.Info.{Info}
use Rattle.ds_desc.specs.declared.meta.Looked.{Looked}
use Rattle.ds_desc.specs.declared.meta.Looked.TheVariants.{Rows, Lost}

-- forward a span contains its start and not its end; in reverse its end and not its start
abbrev pub contains : Dir → List ℕ → Extent → Bool
contains Forward k s = holds s.start s.end k
contains Reverse k s = key_lt s.start k && key_le k s.end

-- some key of the key space lies there, in this direction
abbrev pub lies_ahead : Dir → List ℕ → Bool
lies_ahead Forward k = key_lt k bound
lies_ahead Reverse k = key_lt [] k

-- the first row contains the key in the direction
abbrev pub first_contains : Dir → List ℕ → List Info → Bool
first_contains d k [] = false
first_contains d k (i ∷ is) = contains d k i.desc.span

-- a lookup that isn't lost gives rows of which the first contains the key
abbrev pub FirstContains : Dir → List ℕ → Looked → Type 0
FirstContains d k (Rows infos) = first_contains d k infos ≡ true
FirstContains d k Lost = Unit {0}

its_start : contains Forward (98 ∷ []) (record { start = 98 ∷ []; end = 99 ∷ [] }) ≡ true
its_start = refl

not_its_start_in_reverse : contains Reverse (98 ∷ []) (record { start = 98 ∷ []; end = 99 ∷ [] }) ≡ false
not_its_start_in_reverse = refl

its_end_in_reverse : contains Reverse (99 ∷ []) (record { start = 98 ∷ []; end = 99 ∷ [] }) ≡ true
its_end_in_reverse = refl
