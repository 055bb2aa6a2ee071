-- A world in which a route stays right.
use Rattle.std.specs.Prelude.{◌≡◌, Bool, true, not, ◌&&◌, ◌==◌, List, [], ◌∷◌, map}
use Rattle.std.specs.List.{list_any, list_all}
use Rattle.ds_desc.specs.declared.desc.Info.{Info}
use Rattle.ds_rule.specs.World.{World, is_replica}

-- each range's descriptor with its lease
abbrev pub infos_in : World → List Info
infos_in w = map (λ r. r.info) w.ranges

-- no two have one id
abbrev pub ids_differ : List Info → Bool
ids_differ [] = true
ids_differ (i ∷ is) = not (list_any (λ j. j.desc.id == i.desc.id) is) && ids_differ is

-- the lease is at one of the nodes
abbrev pub has_lease : Info → Bool
has_lease i = is_replica i.lease.node i.desc.nodes

-- no old descriptor waits to be looked up, no two ranges have one id, and each has its lease at one of its nodes
pub record Steady (w : World) : Type 0 where
  pub current : w.armed ≡ []
  pub ids : ids_differ (infos_in w) ≡ true
  pub leases : list_all has_lease (infos_in w) ≡ true
