-- Where a request acts.
use Rattle.std.specs.Prelude.{ℕ, List}
use Rattle.ds_base.specs.Order.{Extent, after}
use Rattle.ds_kind.specs.declared.kind.Bounds.{Bounds}
use Rattle.ds_kind.specs.declared.kind.Bounds.TheVariants.{Point, Between}

-- at one key, or from a start up to an end
pub data Reach : Type 0 where
  At : List ℕ → Reach
  Over : List ℕ → List ℕ → Reach

-- the span that a reach covers
abbrev pub extent_of : Reach → Extent
extent_of (At k) = record { start = k; end = after k }
extent_of (Over s e) = record { start = s; end = e }

abbrev pub reach_of_bounds : Bounds → Reach
reach_of_bounds (Point k) = At k.now
reach_of_bounds (Between s e) = Over s.now e.now
