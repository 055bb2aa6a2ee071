-- Descriptors one after another, in the order in which they were made: which contain a key, and which replace which.
use Rattle.std.specs.Prelude.{◌≡◌, ℕ, ◌<◌, Bool, true, false, ◌&&◌, List, [], ◌∷◌, filter, reverse, max, Option, Some, None, nat_eq, refl}
use Rattle.std.specs.Cmp.Lexicographic.{pointwise}
use Rattle.std.specs.List.{slice_get}
use Rattle.ds_base.specs.Order.{Extent, key_lt}
use Rattle.ds_base.specs.declared.value.Dir.TheVariants.{Forward}
use Rattle.ds_desc.specs.Contains.{contains}
use Rattle.ds_desc.specs.declared.desc.RangeDesc.{RangeDesc}

-- some key is in both spans
abbrev pub overlap : Extent → Extent → Bool
overlap a b = key_lt a.start b.end && key_lt b.start a.end

abbrev pub same_key : List ℕ → List ℕ → Bool
same_key a b = pointwise nat_eq a b

-- the two are one descriptor
abbrev pub same_desc : RangeDesc → RangeDesc → Bool
same_desc a b = nat_eq a.id b.id && nat_eq a.generation b.generation && same_key a.span.start b.span.start && same_key a.span.end b.span.end && pointwise nat_eq a.nodes b.nodes

-- those that contain the key
abbrev pub containing : List ℕ → List RangeDesc → List RangeDesc
containing k ds = filter (λ d. contains Forward k d.span) ds

-- the one that stands so many places before the last
abbrev pub back_from : ℕ → List RangeDesc → Option RangeDesc
back_from b ds = slice_get (reverse ds) b

-- the greatest id, 0 where there is none
abbrev pub greatest_id : List RangeDesc → ℕ
greatest_id [] = 0
greatest_id (d ∷ ds) = max d.id (greatest_id ds)

-- each of these is newer than the generation
abbrev pub AllNewer : ℕ → List RangeDesc → Type 0
AllNewer g [] = Unit {0}
AllNewer g (d ∷ ds) = (g < d.generation) × AllNewer g ds

-- each is newer than all before it
abbrev pub Newer : List RangeDesc → Type 0
Newer [] = Unit {0}
Newer (d ∷ ds) = AllNewer d.generation ds × Newer ds

-- at each key the generations of the descriptors that contained it rise
abbrev pub GenerationsRise : List RangeDesc → Type 0
GenerationsRise ds = (k : List ℕ) → Newer (containing k ds)
