-- What a write of another client keeps of a world.
use Rattle.std.proofs.Common.{◌≡◌, ℕ, Bool, true, false, cond, ◌&&◌, List, [], ◌∷◌, refl, sym, ap, ◌∙◌, subst}
use Rattle.std.specs.List.{list_all}
use Rattle.std.proofs.Math.Bool.{and-false}
use Rattle.ds_base.specs.Order.{key_lt, key_le, bound}
use Rattle.ds_base.proofs.OrderedFacts.{le_of_lt, le_of_not_lt, le_trans, not_lt_of_le}
use Rattle.ds_desc.specs.declared.desc.RangeDesc.{RangeDesc}
use Rattle.ds_cell.specs.Ask.{Cell}
use Rattle.ds_cell.specs.Change.{after_foreign}
use Rattle.ds_cell.specs.Store.{put_cell}
use Rattle.ds_cell.specs.declared.entry.Version.{Version}
use Rattle.ds_rule.specs.Keeping.{IsNewest, Keeps}
use Rattle.ds_rule.specs.Pieces.{Each}
use Rattle.ds_rule.specs.Shifts.{foreign_at}
use Rattle.ds_rule.specs.Steady.{has_lease, ids_differ}
use Rattle.ds_rule.specs.World.{World, Range, contents, start_of, end_of, Tiles, holds_key, replaced}
use Rattle.ds_rule.proofs.Puts.{contents-put}
use Rattle.ds_rule.proofs.Routes.{le_itself, least}
use Rattle.ds_rule.proofs.Tiling.{tiles-put}
use Rattle.ds_world.proofs.Stretches.{infos}

-- the ranges with other cells in the first that passes
abbrev pub holding : (Range → Bool) → (Range → List Cell) → List Range → List Range
holding p g rs = replaced p (λ r. record r { cells = g r }) rs

abbrev pub written : List ℕ → Version → List Range → List Range
written k v rs = holding (holds_key k) (λ r. put_cell k (after_foreign v) r.cells) rs

pub holding-infos : (p : Range → Bool) (g : Range → List Cell) (rs : List Range) → infos (holding p g rs) ≡ infos rs
holding-infos p g [] = refl
holding-infos p g (r ∷ rs) = elim (p r) as (λ b. infos (cond b (record r { cells = g r } ∷ rs) (r ∷ holding p g rs)) ≡ r.info ∷ infos rs) [
  | true ↦ refl
  | false ↦ ap (λ is. r.info ∷ is) (holding-infos p g rs)
]

holding-newest : (ds : List RangeDesc) (p : Range → Bool) (g : Range → List Cell) (rs : List Range) → Each (IsNewest ds) rs → Each (IsNewest ds) (holding p g rs)
holding-newest ds p g [] new = tt
holding-newest ds p g (r ∷ rs) new = elim (p r) as (λ b. Each (IsNewest ds) (cond b (record r { cells = g r } ∷ rs) (r ∷ holding p g rs))) [
  | true ↦ (new.0, new.1)
  | false ↦ (new.0, holding-newest ds p g rs new.1)
]

-- other cells in the first range that passes, where these fit it
pub keeps-holding : (p : Range → Bool) (g : Range → List Cell) (w : World) → Tiles [] (holding p g w.ranges) → Keeps w → Keeps (record w { ranges = holding p g w.ranges })
keeps-holding p g w tiled h = record {
  tiled = tiled;
  newest = holding-newest w.descs p g w.ranges h.newest;
  rise = h.rise;
  ids = ap ids_differ (holding-infos p g w.ranges) ∙ h.ids;
  leases = ap (list_all has_lease) (holding-infos p g w.ranges) ∙ h.leases;
}

pub foreign-keeps : (k : List ℕ) (v : Version) (w : World) → Keeps w → Keeps (foreign_at k v w)
foreign-keeps k v w h = keeps-holding (holds_key k) (λ r. put_cell k (after_foreign v) r.cells) w (tiles-put k (after_foreign v) [] w.ranges h.tiled) h

-- ---- what it leaves in all ranges

pub foreign-contents : (k : List ℕ) (v : Version) (w : World) → Keeps w → key_lt k bound ≡ true → contents (foreign_at k v w).ranges ≡ put_cell k (after_foreign v) (contents w.ranges)
foreign-contents k v w h low = contents-put k (after_foreign v) [] w.ranges h.tiled (least k) low

pub ends-low : (s : List ℕ) (rs : List Range) → Tiles s rs → key_le s bound ≡ true
ends-low s [] t = subst (λ z. key_le s z ≡ true) t (le_itself s)
ends-low s (r ∷ rs) t = le_trans s (end_of r) bound (le_of_lt s (end_of r) t.0.some) (ends-low (end_of r) rs t.1)

-- no range holds the bound or a key above it
pub none-written : (k : List ℕ) (v : Version) (s : List ℕ) (rs : List Range) → key_lt k bound ≡ false → Tiles s rs → written k v rs ≡ rs
none-written k v s [] high t = refl
none-written k v s (r ∷ rs) high t =
    let out : holds_key k r ≡ false = ap (λ b. key_le (start_of r) k && b) (not_lt_of_le (end_of r) k (le_trans (end_of r) bound k (ends-low (end_of r) rs t.1) (le_of_not_lt k bound high))) ∙ and-false (key_le (start_of r) k) in
    ap (λ b. cond b (record r { cells = put_cell k (after_foreign v) r.cells } ∷ rs) (r ∷ written k v rs)) out
    ∙ ap (λ qs. r ∷ qs) (none-written k v (end_of r) rs high t.1)

pub foreign-nowhere : (k : List ℕ) (v : Version) (w : World) → Keeps w → key_lt k bound ≡ false → foreign_at k v w ≡ w
foreign-nowhere k v w h high = ap (λ rs. record w { ranges = rs }) (none-written k v [] w.ranges high h.tiled)

-- the same contents before are the same afterwards, however they lie in ranges
pub same-written : (k : List ℕ) (v : Version) (rs qs : List Range) → Tiles [] rs → Tiles [] qs → contents rs ≡ contents qs → contents (written k v rs) ≡ contents (written k v qs)
same-written k v rs qs t u same =
    elim (key_lt k bound) as (λ b. key_lt k bound ≡ b → contents (written k v rs) ≡ contents (written k v qs)) [
      | true ↦ λ low. contents-put k (after_foreign v) [] rs t (least k) low ∙ ap (put_cell k (after_foreign v)) same ∙ sym (contents-put k (after_foreign v) [] qs u (least k) low)
      | false ↦ λ high. ap contents (none-written k v [] rs high t) ∙ same ∙ sym (ap contents (none-written k v [] qs high u))
    ] refl
