-- What an event may promise of every world.
use Rattle.std.specs.Prelude.{◌≡◌, ℕ, true, false, ◌&&◌, List, ◌++◌}
use Rattle.ds_base.specs.Order.{bound, key_lt}
use Rattle.ds_cell.specs.Change.{after_foreign}
use Rattle.ds_cell.specs.Store.{put_cell}
use Rattle.ds_cell.specs.declared.entry.Version.{Version}
use Rattle.ds_desc.specs.Replicas.{AreReplicas}
use Rattle.ds_desc.specs.declared.desc.RangeDesc.{RangeDesc}
use Rattle.ds_rule.specs.declared.event.Event.{Event}
use Rattle.ds_rule.specs.declared.event.Event.TheVariants.{Move}
use Rattle.ds_rule.specs.Keeping.{Keeps}
use Rattle.ds_rule.specs.Pieces.{Each}
use Rattle.ds_rule.specs.Shifts.{foreign_at}
use Rattle.ds_rule.specs.World.{World, contents, holds_key}

-- it keeps what every world keeps
abbrev pub KeepsAll : (World → World) → Type 0
KeepsAll f = (w : World) → Keeps w → Keeps (f w)

-- it leaves what every key holds, whichever range holds it
abbrev pub LeavesContents : (World → World) → Type 0
LeavesContents f = (w : World) → Keeps w → contents (f w).ranges ≡ contents w.ranges

abbrev pub LeavesDescs : (World → World) → Type 0
LeavesDescs f = (w : World) → (f w).descs ≡ w.descs

-- it leaves the rows that wait to be looked up, the records, the late copies and the count
abbrev pub LeavesRest : (World → World) → Type 0
LeavesRest f = (w : World) → f w ≡ record w { ranges = (f w).ranges; descs = (f w).descs }

-- descriptors are only added, behind those so far
abbrev pub AddsDescs : (World → World) → Type 0
AddsDescs f = (w : World) → (made : List RangeDesc) × ((f w).descs ≡ w.descs ++ made)

-- it leaves all but the rows that wait to be looked up
abbrev pub ArmsAlone : (World → World) → Type 0
ArmsAlone f = (w : World) → f w ≡ record w { armed = (f w).armed }

-- a write of another client, at any key, leads to the same world before it and after it
abbrev pub GoesBesideWrites : (World → World) → Type 0
GoesBesideWrites f = (w : World) (q : List ℕ) (v : Version) → Keeps w → f (foreign_at q v w) ≡ foreign_at q v (f w)

-- a write of another client changes its key alone, as one store would; at the bound or above it changes nothing
abbrev pub WritesAt : List ℕ → Type 0
WritesAt k = (w : World) (v : Version) → Keeps w → key_lt k bound ≡ true → contents (foreign_at k v w).ranges ≡ put_cell k (after_foreign v) (contents w.ranges)

abbrev pub WritesNowhere : List ℕ → Type 0
WritesNowhere k = (w : World) (v : Version) → Keeps w → key_lt k bound ≡ false → foreign_at k v w ≡ w

-- two events lead to the same world in either order, where no range holds a key of both
abbrev pub InDifferentRanges : List ℕ → List ℕ → World → Type 0
InDifferentRanges k q w = Each (λ r. (holds_key k r && holds_key q r) ≡ false) w.ranges

abbrev pub GoesBesideApart : List ℕ → List ℕ → (World → World) → (World → World) → Type 0
GoesBesideApart k q f g = (w : World) → InDifferentRanges k q w → f (g w) ≡ g (f w)

-- in any world
abbrev pub GoesBeside : (World → World) → (World → World) → Type 0
GoesBeside f g = (w : World) → f (g w) ≡ g (f w)

-- where the event moves a range, it is to nodes that may hold one
abbrev pub HasReplicas : Event → Type 0
HasReplicas (Move k ns) = AreReplicas ns
HasReplicas e = Unit {0}

-- it is no event: it counts nothing, arms and uses up no row, and no late copy comes or goes
abbrev pub IsNoEvent : (World → World) → Type 0
IsNoEvent f = (w : World) → ((f w).armed ≡ w.armed) × ((f w).copies ≡ w.copies) × ((f w).count ≡ w.count)
