-- How the ranges of a world are split, merged, leased and moved, and what else can happen to it. Nothing is counted here, and
-- where an event can't apply, nothing changes: so it is too where a new id, generation or number of a lease would pass the
-- greatest one.
use Rattle.std.specs.Prelude.{ℕ, ◌+◌, Bool, not, ◌&&◌, ◌||◌, ◌==◌, List, [], ◌∷◌, ◌++◌, filter, max, Option, Some, None, nat_eq, nat_lt, if◌then◌else◌}
use Rattle.std.specs.Cmp.Lexicographic.{pointwise}
use Rattle.ds_base.specs.Order.{key_lt, key_le}
use Rattle.ds_desc.specs.Descs.{back_from, containing, greatest_id}
use Rattle.ds_desc.specs.declared.desc.Lease.{Lease}
use Rattle.ds_desc.specs.declared.desc.RangeDesc.{RangeDesc}
use Rattle.ds_cell.specs.Change.{after_foreign}
use Rattle.ds_cell.specs.Store.{put_cell}
use Rattle.ds_cell.specs.declared.entry.Version.{Version}
use Rattle.ds_rule.specs.World.{World, Range, start_of, end_of, first_node, holds_key, replaced}
pub use Rattle.ds_rule.specs.World.{is_replica}

-- one more is still a number of 32 bits
abbrev pub has_next : ℕ → Bool
has_next n = nat_lt n 4294967295

-- ---- the range that holds a key

-- what becomes of a range and of those that follow it, and the descriptors that are made
pub record Change : Type 0 where
  pub ranges : List Range
  pub made : List RangeDesc

abbrev pub unchanged : List Range → Change
unchanged rs = record { ranges = rs; made = [] }

abbrev pub behind : Range → Change → Change
behind r c = record c { ranges = r ∷ c.ranges }

-- the range that holds the key and those that follow it, changed; those before it stay
abbrev pub change_at : (Range → List Range → Change) → List ℕ → List Range → Change
change_at f k [] = unchanged []
change_at f k (r ∷ rs) = if holds_key k r then f r rs else behind r (change_at f k rs)

-- the world after that, with the descriptors that were made
abbrev pub shifted : (Range → List Range → Change) → List ℕ → World → World
shifted f k w = record w { ranges = (change_at f k w.ranges).ranges; descs = w.descs ++ (change_at f k w.ranges).made }

-- ---- a split

-- the part below the key keeps the id
abbrev pub left_part : List ℕ → Range → Range
left_part k r = record {
  info = record r.info { desc = record r.info.desc { span = record { start = start_of r; end = k }; generation = r.info.desc.generation + 1 } };
  cells = filter (λ p. key_lt p.0 k) r.cells;
}

-- the part from the key on has a new one
abbrev pub right_part : ℕ → List ℕ → Range → Range
right_part id k r = record {
  info = record r.info { desc = record r.info.desc { id = id; span = record { start = k; end = end_of r }; generation = r.info.desc.generation + 1 } };
  cells = filter (λ p. key_le k p.0) r.cells;
}

-- not at the start of a range
abbrev pub can_split : ℕ → List ℕ → Range → Bool
can_split top k r = key_lt (start_of r) k && has_next r.info.desc.generation && has_next top

-- both parts have the replicas and the lease; top is the greatest id so far
abbrev pub split_in : ℕ → List ℕ → Range → List Range → Change
split_in top k r rs =
    if can_split top k r then record {
      ranges = left_part k r ∷ right_part (top + 1) k r ∷ rs;
      made = (left_part k r).info.desc ∷ (right_part (top + 1) k r).info.desc ∷ [];
    } else unchanged (r ∷ rs)

abbrev pub split_at : List ℕ → World → World
split_at k w = shifted (split_in (greatest_id w.descs) k) k w

-- ---- a merge

-- the range with its right neighbour: its id, replicas and lease, and a generation above both
abbrev pub joined : Range → Range → Range
joined r s = record {
  info = record r.info { desc = record r.info.desc { span = record { start = start_of r; end = end_of s }; generation = max r.info.desc.generation s.info.desc.generation + 1 } };
  cells = r.cells ++ s.cells;
}

abbrev pub can_join : Range → Range → Bool
can_join r s = has_next (max r.info.desc.generation s.info.desc.generation)

-- the last range has no neighbour
abbrev pub merge_in : Range → List Range → Change
merge_in r [] = unchanged (r ∷ [])
merge_in r (s ∷ rs) = if can_join r s then record { ranges = joined r s ∷ rs; made = (joined r s).info.desc ∷ [] } else unchanged (r ∷ s ∷ rs)

abbrev pub merge_at : List ℕ → World → World
merge_at k w = shifted merge_in k w

-- ---- a lease

abbrev pub with_lease : ℕ → Range → Range
with_lease n r = record r { info = record r.info { lease = record { node = n; number = r.info.lease.number + 1 } } }

-- the node is a replica that doesn't hold the lease
abbrev pub can_lease : ℕ → Range → Bool
can_lease n r = is_replica n r.info.desc.nodes && not (r.info.lease.node == n) && has_next r.info.lease.number

abbrev pub lease_in : ℕ → Range → List Range → Change
lease_in n r rs = unchanged ((if can_lease n r then with_lease n r else r) ∷ rs)

abbrev pub lease_to : List ℕ → ℕ → World → World
lease_to k n w = shifted (lease_in n) k w

-- ---- a move

-- the lease stays with its holder where that is among the nodes; else the first of them has it
abbrev pub lease_among : List ℕ → Lease → Lease
lease_among ns l = if is_replica l.node ns then l else record { node = first_node ns; number = l.number + 1 }

abbrev pub with_nodes : List ℕ → Range → Range
with_nodes ns r = record r {
  info = record {
    desc = record r.info.desc { nodes = ns; generation = r.info.desc.generation + 1 };
    lease = lease_among ns r.info.lease;
  };
}

-- other nodes, or the same in another order
abbrev pub can_move : List ℕ → Range → Bool
can_move ns r =
    not (pointwise nat_eq ns r.info.desc.nodes) && has_next r.info.desc.generation
    && (is_replica r.info.lease.node ns || has_next r.info.lease.number)

abbrev pub move_in : List ℕ → Range → List Range → Change
move_in ns r rs = if can_move ns r then record { ranges = with_nodes ns r ∷ rs; made = (with_nodes ns r).info.desc ∷ [] } else unchanged (r ∷ rs)

abbrev pub move_to : List ℕ → List ℕ → World → World
move_to k ns w = shifted (move_in ns) k w

-- ---- an old descriptor

abbrev pub arming : Option RangeDesc → World → World
arming None w = w
arming (Some d) w = record w { armed = w.armed ++ d ∷ [] }

-- a lookup will be answered with the descriptor that stands b before the last that contains the key
abbrev pub stale_by : List ℕ → ℕ → World → World
stale_by k b w = arming (back_from b (containing k w.descs)) w

-- ---- a write of another client

abbrev pub foreign_at : List ℕ → Version → World → World
foreign_at k v w = record w { ranges = replaced (holds_key k) (λ r. record r { cells = put_cell k (after_foreign v) r.cells }) w.ranges }
