-- What every world keeps, whatever happens to it.
use Rattle.std.specs.Prelude.{◌≡◌, ℕ, true, List, [], Some}
use Rattle.std.specs.List.{list_all}
use Rattle.ds_desc.specs.Descs.{GenerationsRise, containing}
use Rattle.ds_desc.specs.declared.desc.RangeDesc.{RangeDesc}
use Rattle.ds_cell.specs.Seen.{last_of}
use Rattle.ds_rule.specs.Pieces.{Each}
use Rattle.ds_rule.specs.Steady.{has_lease, ids_differ, infos_in}
use Rattle.ds_rule.specs.World.{World, Range, Tiles, holds_key}

-- of all descriptors that contain a key of the range, the last is the range's own
abbrev pub IsNewest : List RangeDesc → Range → Type 0
IsNewest ds r = (k : List ℕ) → holds_key k r ≡ true → last_of (containing k ds) ≡ Some r.info.desc

-- the ranges tile the keys, and each has the last descriptor that was made for its keys; at each key generations rise; no two
-- ranges have one id; and each lease is with a replica
pub record Keeps (w : World) : Type 0 where
  pub tiled : Tiles [] w.ranges
  pub newest : Each (IsNewest w.descs) w.ranges
  pub rise : GenerationsRise w.descs
  pub ids : ids_differ (infos_in w) ≡ true
  pub leases : list_all has_lease (infos_in w) ≡ true
