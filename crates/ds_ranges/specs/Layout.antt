-- How the keys lie in ranges: the part of a world that splits, merges, leases and moves change.
use Rattle.std.specs.Prelude.{◌≡◌, List, map}
use Rattle.ds_desc.specs.declared.desc.RangeDesc.{RangeDesc}
use Rattle.ds_rule.specs.World.{World, Range}

-- the ranges by rising key, and all descriptors so far
pub record Layout : Type 0 where
  pub ranges : List Range
  pub descs : List RangeDesc

abbrev pub layout : List Range → List RangeDesc → Layout
layout rs ds = record { ranges = rs; descs = ds }

abbrev pub layout_of : World → Layout
layout_of w = layout w.ranges w.descs

-- the world with this layout
abbrev pub laid : Layout → World → World
laid l w = record w { ranges = l.ranges; descs = l.descs }

-- an event of worlds made the one of the other, whatever else the world has
abbrev pub Became : (World → World) → Layout → Layout → Type 0
Became event old new = (w : World) → laid new w ≡ event (laid old w)

-- the ranges' own descriptors
abbrev pub own_descs : List Range → List RangeDesc
own_descs rs = map (λ r. r.info.desc) rs
