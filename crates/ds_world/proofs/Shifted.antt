-- Each shift of a world keeps what every world keeps, and what it holds.
use Rattle.std.proofs.Common.{◌≡◌, ℕ, true, false, cond, List, [], ◌∷◌, ◌++◌, Option, Some, None, refl, ap, ◌∙◌}
use Rattle.ds_base.proofs.SmallFacts.{append_nil}
use Rattle.ds_desc.specs.Descs.{back_from, containing, greatest_id}
use Rattle.ds_desc.specs.Replicas.{AreReplicas}
use Rattle.ds_desc.specs.declared.desc.RangeDesc.{RangeDesc}
use Rattle.ds_rule.specs.Keeping.{Keeps}
use Rattle.ds_rule.specs.Shifts.{arming, behind, change_at, lease_in, lease_to, merge_at, merge_in, move_in, move_to, split_at, split_in, stale_by}
use Rattle.ds_rule.specs.World.{World, Range, contents, holds_key}
use Rattle.ds_world.proofs.Leases.{lease-keeps, move-keeps}
use Rattle.ds_world.proofs.Merges.{merge-keeps}
use Rattle.ds_world.proofs.Splits.{split-keeps}
use Rattle.ds_world.proofs.Stretches.{Keeping, change-keeps, keeps-shifted, whole-stretch}

pub split-keeping : (k : List ℕ) (w : World) → Keeps w → Keeping w.descs [] w.ranges (change_at (split_in (greatest_id w.descs) k) k w.ranges)
split-keeping k w h = change-keeps (split_in (greatest_id w.descs) k) k w.descs [] w.ranges (λ s r rs held t. split-keeps w.descs s k r rs h.rise held t) h.rise (whole-stretch w h)

pub merge-keeping : (k : List ℕ) (w : World) → Keeps w → Keeping w.descs [] w.ranges (change_at merge_in k w.ranges)
merge-keeping k w h = change-keeps merge_in k w.descs [] w.ranges (λ s r rs held t. merge-keeps w.descs s r rs h.rise t) h.rise (whole-stretch w h)

pub lease-keeping : (k : List ℕ) (n : ℕ) (w : World) → Keeps w → Keeping w.descs [] w.ranges (change_at (lease_in n) k w.ranges)
lease-keeping k n w h = change-keeps (lease_in n) k w.descs [] w.ranges (λ s r rs held t. lease-keeps w.descs s n r rs h.rise t) h.rise (whole-stretch w h)

pub move-keeping : (k ns : List ℕ) (w : World) → AreReplicas ns → Keeps w → Keeping w.descs [] w.ranges (change_at (move_in ns) k w.ranges)
move-keeping k ns w some h = change-keeps (move_in ns) k w.descs [] w.ranges (λ s r rs held t. move-keeps w.descs s ns r rs some h.rise t) h.rise (whole-stretch w h)

pub split_keeps : (k : List ℕ) (w : World) → Keeps w → Keeps (split_at k w)
split_keeps k w h = keeps-shifted (split_in (greatest_id w.descs) k) k w (split-keeping k w h)

pub split_holds : (k : List ℕ) (w : World) → Keeps w → contents (split_at k w).ranges ≡ contents w.ranges
split_holds k w h = (split-keeping k w h).same

pub merge_keeps : (k : List ℕ) (w : World) → Keeps w → Keeps (merge_at k w)
merge_keeps k w h = keeps-shifted merge_in k w (merge-keeping k w h)

pub merge_holds : (k : List ℕ) (w : World) → Keeps w → contents (merge_at k w).ranges ≡ contents w.ranges
merge_holds k w h = (merge-keeping k w h).same

pub lease_keeps : (k : List ℕ) (n : ℕ) (w : World) → Keeps w → Keeps (lease_to k n w)
lease_keeps k n w h = keeps-shifted (lease_in n) k w (lease-keeping k n w h)

pub lease_holds : (k : List ℕ) (n : ℕ) (w : World) → Keeps w → contents (lease_to k n w).ranges ≡ contents w.ranges
lease_holds k n w h = (lease-keeping k n w h).same

pub move_keeps : (k ns : List ℕ) (w : World) → AreReplicas ns → Keeps w → Keeps (move_to k ns w)
move_keeps k ns w some h = keeps-shifted (move_in ns) k w (move-keeping k ns w some h)

pub move_holds : (k ns : List ℕ) (w : World) → AreReplicas ns → Keeps w → contents (move_to k ns w).ranges ≡ contents w.ranges
move_holds k ns w some h = (move-keeping k ns w some h).same

-- ---- an old descriptor stands beside the ranges

armed-keeps : (o : Option RangeDesc) (w : World) → Keeps w → Keeps (arming o w)
armed-keeps None w h = h
armed-keeps (Some d) w h = record { tiled = h.tiled; newest = h.newest; rise = h.rise; ids = h.ids; leases = h.leases }

pub stale_keeps : (k : List ℕ) (b : ℕ) (w : World) → Keeps w → Keeps (stale_by k b w)
stale_keeps k b w h = armed-keeps (back_from b (containing k w.descs)) w h

-- a lease makes no descriptor
lease-made : (k : List ℕ) (n : ℕ) (rs : List Range) → (change_at (lease_in n) k rs).made ≡ []
lease-made k n [] = refl
lease-made k n (r ∷ rs) = elim (holds_key k r) as (λ b. (cond b (lease_in n r rs) (behind r (change_at (lease_in n) k rs))).made ≡ []) [
  | true ↦ refl
  | false ↦ lease-made k n rs
]

pub lease_descs : (k : List ℕ) (n : ℕ) (w : World) → (lease_to k n w).descs ≡ w.descs
lease_descs k n w = ap (λ ds. w.descs ++ ds) (lease-made k n w.ranges) ∙ append_nil w.descs

armed-rest : (o : Option RangeDesc) (w : World) → arming o w ≡ record w { armed = (arming o w).armed }
armed-rest None w = refl
armed-rest (Some d) w = refl

pub stale_rest : (k : List ℕ) (b : ℕ) (w : World) → stale_by k b w ≡ record w { armed = (stale_by k b w).armed }
stale_rest k b w = armed-rest (back_from b (containing k w.descs)) w
