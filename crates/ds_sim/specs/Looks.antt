-- How a lookup is answered, by a descriptor that is armed or by the ranges.
use Rattle.std.specs.Prelude.{◌≡◌, ℕ, List, [], ◌∷◌, Some, None, find}
use Rattle.ds_base.specs.declared.value.Dir.{Dir}
use Rattle.ds_desc.specs.Contains.{FirstContains}
use Rattle.ds_desc.specs.declared.desc.Info.{Info}
use Rattle.ds_desc.specs.declared.desc.RangeDesc.{RangeDesc}
use Rattle.ds_desc.specs.declared.meta.Looked.{Looked}
use Rattle.ds_desc.specs.declared.meta.Looked.TheVariants.{Rows}
use Rattle.ds_rule.specs.World.{World, answers_lookup, armed_row, rows_at, without_first}
use Rattle.ds_ranges.specs.Layout.{Layout, laid}

-- one armed descriptor, the first that contains the key, is the answer, and is armed no longer
pub record LooksArmed (k : List ℕ) (d : Dir) (old new : List RangeDesc) (l : Looked) : Type 0 where
  pub desc : RangeDesc
  pub found : find (answers_lookup d k) old ≡ Some desc
  pub rows : l ≡ Rows (armed_row desc ∷ [])
  pub gone : new ≡ without_first (answers_lookup d k) old

-- the rows of the ranges are the answer, whatever else the world has; the first contains the key
pub record LooksUp (k : List ℕ) (d : Dir) (l : Layout) (looked : Looked) : Type 0 where
  pub infos : List Info
  pub rows : looked ≡ Rows infos
  pub are : (w : World) → infos ≡ rows_at d k (laid l w) None
  pub first : FirstContains d k looked
