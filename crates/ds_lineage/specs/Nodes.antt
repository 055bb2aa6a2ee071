-- The nodes of a lineage: descriptors, each with the places of those that it comes after.
use Rattle.std.specs.Prelude.{◌≡◌, ℕ, true, List, [], map, take, Option, Some, None}
use Rattle.std.specs.List.{slice_get}
use Rattle.ds_base.specs.Order.{Extent}
use Rattle.ds_base.specs.declared.value.Dir.TheVariants.{Forward}
use Rattle.ds_desc.specs.Contains.{contains}
use Rattle.ds_desc.specs.Descs.{containing, greatest_id}
use Rattle.ds_desc.specs.declared.desc.RangeDesc.{RangeDesc}
use Rattle.ds_lineage.specs.Last.{IsLastAt, Begins, Follows, Joins}
use Rattle.ds_lineage.specs.declared.node.After.{After}
use Rattle.ds_lineage.specs.declared.node.After.TheVariants.{Nothing, One, Two}
use Rattle.ds_lineage.specs.declared.node.Node.{Node}

abbrev pub descs : List Node → List RangeDesc
descs nodes = map (λ n. n.desc) nodes

-- a descriptor of this span comes after these
abbrev pub ComesAfter : List RangeDesc → Extent → After → Type 0
ComesAfter ds s Nothing = Begins ds s
ComesAfter ds s (One place) = Follows ds s place
ComesAfter ds s (Two left right) = Joins ds s left right

-- each node names what it comes after among those before it
pub record IsLineage (nodes : List Node) (greatest : ℕ) : Type 0 where
  pub named : (i : ℕ) (n : Node) → slice_get nodes i ≡ Some n → ComesAfter (take i (descs nodes)) n.desc.span n.after
  pub top : greatest ≡ greatest_id (descs nodes)

-- the one at this place contains the key
pub record ContainsAt (ds : List RangeDesc) (k : List ℕ) (i : ℕ) : Type 0 where
  pub one : RangeDesc
  pub there : slice_get ds i ≡ Some one
  pub holds : contains Forward k one.span ≡ true

-- the last one before this place that contains the key, or that none does
abbrev pub IsLastBefore : List RangeDesc → List ℕ → ℕ → Option ℕ → Type 0
IsLastBefore ds k i None = containing k (take i ds) ≡ []
IsLastBefore ds k i (Some place) = IsLastAt (take i ds) k place
