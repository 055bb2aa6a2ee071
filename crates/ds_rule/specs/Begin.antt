-- The world that a cluster begins with.
use Rattle.std.specs.Prelude.{◌≡◌, ℕ, ◌+◌, Bool, true, false, ◌&&◌, ◌==◌, List, [], ◌∷◌, length, map, refl}
use Rattle.ds_base.specs.Order.{key_lt, bound}
use Rattle.ds_rule.specs.declared.cluster.ClusterRange.{ClusterRange}
use Rattle.ds_rule.specs.World.{World, Range, is_replica}

-- each range ends where the next one starts, and the last one at the bound
abbrev pub next_start : List ClusterRange → List ℕ
next_start [] = bound
next_start (r ∷ rs) = r.start

-- a range as it begins: the id, generation 1, lease number 1, and nothing in it
abbrev pub range_of : ℕ → ClusterRange → List ℕ → Range
range_of id r end = record {
  info = record {
    desc = record { id = id; span = record { start = r.start; end = end }; nodes = r.nodes; generation = 1 };
    lease = record { node = r.lease; number = 1 };
  };
  cells = [];
}

abbrev pub ranges_of : ℕ → List ClusterRange → List Range
ranges_of id [] = []
ranges_of id (r ∷ rs) = range_of id r (next_start rs) ∷ ranges_of (id + 1) rs

-- each range starts below its end
abbrev pub rises : List ClusterRange → Bool
rises [] = true
rises (r ∷ rs) = key_lt r.start (next_start rs) && rises rs

-- the ranges begin at the least key, and tile the keys up to the bound
abbrev pub tiles : List ClusterRange → Bool
tiles rs = (length (next_start rs) == 0) && rises rs

-- the lease is with a node that has a replica
abbrev pub is_leased : ClusterRange → Bool
is_leased r = is_replica r.lease r.nodes

abbrev pub first_world : List ClusterRange → World
first_world rs = record {
  ranges = ranges_of 1 rs;
  descs = map (λ r. r.info.desc) (ranges_of 1 rs);
  armed = [];
  records = [];
  copies = [];
  count = 0;
}

no_range_tiles_nothing : tiles [] ≡ false
no_range_tiles_nothing = refl

two_ranges_tile : tiles (record { start = []; nodes = 1 ∷ []; lease = 1 } ∷ record { start = 103 ∷ []; nodes = 1 ∷ []; lease = 1 } ∷ []) ≡ true
two_ranges_tile = refl

not_from_the_middle : tiles (record { start = 103 ∷ []; nodes = 1 ∷ []; lease = 1 } ∷ []) ≡ false
not_from_the_middle = refl

the_lease_is_with_a_replica : is_leased (record { start = []; nodes = 1 ∷ 2 ∷ []; lease = 2 }) ≡ true
the_lease_is_with_a_replica = refl

not_with_another_node : is_leased (record { start = []; nodes = 1 ∷ 2 ∷ []; lease = 3 }) ≡ false
not_with_another_node = refl
