-- Where the last descriptor stands that contains a key, and what a new descriptor comes after.
use Rattle.std.specs.Prelude.{◌≡◌, ℕ, zero, suc, true, false, List, [], ◌∷◌, Some}
use Rattle.std.specs.List.{slice_get}
use Rattle.ds_base.specs.Order.{Extent, key_lt}
use Rattle.ds_base.specs.declared.value.Dir.TheVariants.{Forward}
use Rattle.ds_desc.specs.Contains.{contains}
use Rattle.ds_desc.specs.Descs.{containing}
use Rattle.ds_desc.specs.declared.desc.RangeDesc.{RangeDesc}

-- the one at this place contains the key, and none after it does
abbrev pub IsLastAt : List RangeDesc → List ℕ → ℕ → Type 0
IsLastAt [] k i = ⊥
IsLastAt (d ∷ ds) k zero = (contains Forward k d.span ≡ true) × (containing k ds ≡ [])
IsLastAt (d ∷ ds) k (suc i) = IsLastAt ds k i

-- ---- what a new descriptor of this span comes after

-- nothing: no key of the span is in a descriptor so far
abbrev pub Begins : List RangeDesc → Extent → Type 0
Begins ds s = (k : List ℕ) → contains Forward k s ≡ true → containing k ds ≡ []

-- one descriptor: at each key of the span it is the last
abbrev pub Follows : List RangeDesc → Extent → ℕ → Type 0
Follows ds s before = (k : List ℕ) → contains Forward k s ≡ true → IsLastAt ds k before

-- two descriptors: the left one is the last at the keys below the start of the right one, and that one from there on
pub record Joins (ds : List RangeDesc) (s : Extent) (left right : ℕ) : Type 0 where
  pub second : RangeDesc
  pub there : slice_get ds right ≡ Some second
  pub below : (k : List ℕ) → contains Forward k s ≡ true → key_lt k second.span.start ≡ true → IsLastAt ds k left
  pub from : (k : List ℕ) → contains Forward k s ≡ true → key_lt k second.span.start ≡ false → IsLastAt ds k right

-- ---- the newest

-- the descriptor stands at this place, and at each of its keys it is the last
pub record IsNewestAt (ds : List RangeDesc) (d : RangeDesc) (i : ℕ) : Type 0 where
  pub there : slice_get ds i ≡ Some d
  pub last : Follows ds d.span i
