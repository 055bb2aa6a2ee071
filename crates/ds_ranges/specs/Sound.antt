-- What the ranges of a cluster keep.
use Rattle.std.specs.Prelude.{◌≡◌, ℕ, ◌+◌, false, List, [], length, Option, Some, None}
use Rattle.std.specs.List.{slice_get}
use Rattle.ds_base.specs.Order.{key_lt, bound}
use Rattle.ds_desc.specs.Descs.{containing, greatest_id}
use Rattle.ds_desc.specs.declared.desc.RangeDesc.{RangeDesc}
use Rattle.ds_rule.specs.Keeping.{Keeps}
use Rattle.ds_rule.specs.Pieces.{Each}
use Rattle.ds_rule.specs.World.{World, Range}
use Rattle.ds_ranges.specs.Layout.{laid, layout, own_descs}

-- the descriptor at a place that may be unknown
abbrev pub desc_at : Option ℕ → List RangeDesc → Option RangeDesc
desc_at None ds = None
desc_at (Some i) ds = slice_get ds i

-- of each id the place of one descriptor is noted
abbrev pub noted_desc : ℕ → List ℕ → List RangeDesc → Option RangeDesc
noted_desc id places ds = desc_at (slice_get places id) ds

-- under the descriptor's id its own place is noted
abbrev pub PlaceIsNoted : List ℕ → List RangeDesc → RangeDesc → Type 0
PlaceIsNoted places ds d = noted_desc d.id places ds ≡ Some d

-- a world without anything
abbrev pub bare : World
bare = record { ranges = []; descs = []; armed = []; records = []; copies = []; count = 0 }

-- the layout is one of a world; of each range the place of its descriptor is noted; so many places as ids, and the one of the
-- id 0, which none has; and no descriptor contains the bound or a key above it
pub record IsSound (rs : List Range) (ds : List RangeDesc) (places : List ℕ) : Type 0 where
  pub keeps : Keeps (laid (layout rs ds) bare)
  pub own : Each (PlaceIsNoted places ds) (own_descs rs)
  pub count : length places ≡ greatest_id ds + 1
  pub low : (k : List ℕ) → key_lt k bound ≡ false → containing k ds ≡ []
