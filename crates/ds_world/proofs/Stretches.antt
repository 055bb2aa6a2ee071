-- A stretch of ranges as every world keeps it, and what a change of the range that holds a key keeps of it.
use Rattle.std.proofs.Common.{◌≡◌, ℕ, ◌≤◌, Bool, true, false, cond, not, ◌&&◌, ◌==◌, List, [], ◌∷◌, ◌++◌, map, refl, sym, ap, ◌∙◌, subst}
use Rattle.std.specs.List.{list_all, list_any}
use Rattle.ds_base.specs.Order.{key_le}
use Rattle.ds_base.proofs.OrderedFacts.{le_of_lt, le_trans}
use Rattle.ds_base.proofs.SmallFacts.{and_first, and_second, or_first, or_second, or_neither, not_true, append_nil}
use Rattle.ds_desc.specs.Descs.{GenerationsRise, greatest_id}
use Rattle.ds_desc.specs.declared.desc.Info.{Info}
use Rattle.ds_desc.specs.declared.desc.RangeDesc.{RangeDesc}
use Rattle.ds_rule.specs.Keeping.{IsNewest, Keeps}
use Rattle.ds_rule.specs.Pieces.{Each}
use Rattle.ds_rule.specs.Shifts.{Change, behind, change_at, shifted, unchanged}
use Rattle.ds_rule.specs.Steady.{has_lease, ids_differ}
use Rattle.ds_rule.specs.World.{World, Range, contents, end_of, Tiles, holds_key}
use Rattle.ds_world.proofs.Newest.{id-known, newest-beside, none-before}

abbrev pub infos : List Range → List Info
infos rs = map (λ r. r.info) rs

abbrev pub has_id : ℕ → List Info → Bool
has_id id is = list_any (λ j. j.desc.id == id) is

-- ranges from a key on
pub record IsStretch (ds : List RangeDesc) (s : List ℕ) (rs : List Range) : Type 0 where
  pub tiled : Tiles s rs
  pub newest : Each (IsNewest ds) rs
  pub ids : ids_differ (infos rs) ≡ true
  pub leases : list_all has_lease (infos rs) ≡ true

-- a change of them: what they are afterwards; what was made starts among them, no id up to the greatest is new, and they hold
-- what they held
pub record Keeping (ds : List RangeDesc) (s : List ℕ) (rs : List Range) (c : Change) : Type 0 where
  pub after : IsStretch (ds ++ c.made) s c.ranges
  pub rise : GenerationsRise (ds ++ c.made)
  pub from : Each (λ d. key_le s d.span.start ≡ true) c.made
  pub fresh : (id : ℕ) → id ≤ greatest_id ds → has_id id (infos rs) ≡ false → has_id id (infos c.ranges) ≡ false
  pub same : contents c.ranges ≡ contents rs

pub nothing : (ds : List RangeDesc) (s : List ℕ) (rs : List Range) → GenerationsRise ds → IsStretch ds s rs → Keeping ds s rs (unchanged rs)
nothing ds s rs rise before = record {
  after = subst (λ z. IsStretch z s rs) (sym (append_nil ds)) before;
  rise = subst GenerationsRise (sym (append_nil ds)) rise;
  from = tt;
  fresh = λ id low h. h;
  same = refl;
}

pub stretch-tail : (ds : List RangeDesc) (s : List ℕ) (r : Range) (rs : List Range) → IsStretch ds s (r ∷ rs) → IsStretch ds (end_of r) rs
stretch-tail ds s r rs w = record {
  tiled = w.tiled.1;
  newest = w.newest.1;
  ids = and_second (not (has_id r.info.desc.id (infos rs))) _ w.ids;
  leases = and_second (has_lease r.info) _ w.leases;
}

pub other_id : (ds : List RangeDesc) (s : List ℕ) (r : Range) (rs : List Range) → IsStretch ds s (r ∷ rs) → has_id r.info.desc.id (infos rs) ≡ false
other_id ds s r rs w = not_true _ (and_first _ _ w.ids)

from-later : (s m : List ℕ) (ds : List RangeDesc) → key_le s m ≡ true → Each (λ d. key_le m d.span.start ≡ true) ds → Each (λ d. key_le s d.span.start ≡ true) ds
from-later s m [] low all = tt
from-later s m (d ∷ ds) low all = (le_trans s m d.span.start low all.0, from-later s m ds low all.1)

-- a range before those that change
behind-keeps : (ds : List RangeDesc) (s : List ℕ) (r : Range) (rs : List Range) (c : Change) → IsStretch ds s (r ∷ rs) → Keeping ds (end_of r) rs c → Keeping ds s (r ∷ rs) (behind r c)
behind-keeps ds s r rs c w k = record {
  after = record {
    tiled = (w.tiled.0, k.after.tiled);
    newest = (newest-beside ds c.made r w.newest.0 (λ q h. none-before q (end_of r) c.made (and_second _ _ h) k.from), k.after.newest);
    ids = ap (λ t. not t && ids_differ (infos c.ranges)) (k.fresh r.info.desc.id (id-known ds s r w.tiled.0 w.newest.0) (other_id ds s r rs w)) ∙ k.after.ids;
    leases = ap (λ t. t && list_all has_lease (infos c.ranges)) (and_first (has_lease r.info) _ w.leases) ∙ k.after.leases;
  };
  rise = k.rise;
  from = from-later s (end_of r) c.made (le_of_lt s (end_of r) w.tiled.0.some) k.from;
  fresh = λ id low h. or_neither _ _ (or_first _ _ h) (k.fresh id low (or_second (r.info.desc.id == id) _ h));
  same = ap (λ zs. r.cells ++ zs) k.same;
}

-- a change of the range that holds the key and those that follow it, where it keeps these, keeps all
pub change-keeps : (f : Range → List Range → Change) (k : List ℕ) (ds : List RangeDesc) (s : List ℕ) (rs : List Range) → ((m : List ℕ) (r : Range) (qs : List Range) → holds_key k r ≡ true → IsStretch ds m (r ∷ qs) → Keeping ds m (r ∷ qs) (f r qs)) → GenerationsRise ds → IsStretch ds s rs → Keeping ds s rs (change_at f k rs)
change-keeps f k ds s [] there rise w = nothing ds s [] rise w
change-keeps f k ds s (r ∷ rs) there rise w =
    elim (holds_key k r) as (λ b. holds_key k r ≡ b → Keeping ds s (r ∷ rs) (cond b (f r rs) (behind r (change_at f k rs)))) [
      | true ↦ λ h. there s r rs h w
      | false ↦ λ h. behind-keeps ds s r rs (change_at f k rs) w (change-keeps f k ds (end_of r) rs there rise (stretch-tail ds s r rs w))
    ] refl

pub whole-stretch : (w : World) → Keeps w → IsStretch w.descs [] w.ranges
whole-stretch w k = record { tiled = k.tiled; newest = k.newest; ids = k.ids; leases = k.leases }

pub keeps-shifted : (f : Range → List Range → Change) (k : List ℕ) (w : World) → Keeping w.descs [] w.ranges (change_at f k w.ranges) → Keeps (shifted f k w)
keeps-shifted f k w c = record {
  tiled = c.after.tiled;
  newest = c.after.newest;
  rise = c.rise;
  ids = c.after.ids;
  leases = c.after.leases;
}

-- ranges and descriptors alone decide it
pub keeps-same : (w v : World) → v.ranges ≡ w.ranges → v.descs ≡ w.descs → Keeps w → Keeps v
keeps-same w v ranges descs k = record {
  tiled = subst (Tiles []) (sym ranges) k.tiled;
  newest = subst (λ ds. Each (IsNewest ds) v.ranges) (sym descs) (subst (Each (IsNewest w.descs)) (sym ranges) k.newest);
  rise = subst GenerationsRise (sym descs) k.rise;
  ids = ap (λ rs. ids_differ (infos rs)) ranges ∙ k.ids;
  leases = ap (λ rs. list_all has_lease (infos rs)) ranges ∙ k.leases;
}
