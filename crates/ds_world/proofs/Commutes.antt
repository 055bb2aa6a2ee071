-- A shift of the ranges and a write of another client, in either order.
use Rattle.std.proofs.Common.{◌≡◌, ℕ, ◌+◌, true, false, cond, List, [], ◌∷◌, ◌++◌, Option, Some, None, refl, sym, ap, ◌∙◌, subst}
use Rattle.std.proofs.lemmas.List.{append_cancel_left}
use Rattle.ds_base.specs.Ordered.{between}
use Rattle.ds_base.proofs.ListFacts.{cons_head, cons_tail}
use Rattle.ds_base.proofs.OrderedFacts.{cut-append, none-from}
use Rattle.ds_base.proofs.SmallFacts.{append_nil}
use Rattle.ds_desc.specs.Descs.{back_from, containing, greatest_id}
use Rattle.ds_desc.specs.Replicas.{AreReplicas}
use Rattle.ds_desc.specs.declared.desc.Info.{Info}
use Rattle.ds_desc.specs.declared.desc.RangeDesc.{RangeDesc}
use Rattle.ds_cell.specs.Ask.{Cell, key_of}
use Rattle.ds_cell.specs.Change.{after_foreign}
use Rattle.ds_cell.specs.Store.{put_cell}
use Rattle.ds_cell.specs.declared.entry.Version.{Version}
use Rattle.ds_rule.specs.Keeping.{Keeps}
use Rattle.ds_rule.specs.Shifts.{Change, arming, behind, can_join, can_lease, can_move, can_split, change_at, foreign_at, joined, lease_in, lease_to, left_part, merge_at, merge_in, move_in, move_to, right_part, shifted, split_at, split_in, stale_by, unchanged, with_lease, with_nodes}
use Rattle.ds_rule.specs.World.{World, Range, contents, end_of, Inside, Tiles, holds_key}
use Rattle.ds_rule.proofs.Routes.{contents-from, le_itself}
use Rattle.ds_rule.proofs.Tiling.{tiles-put}
use Rattle.ds_world.proofs.Foreign.{foreign-keeps, holding-infos, same-written, written}
use Rattle.ds_world.proofs.Shifted.{lease-keeping, merge-keeping, move-keeping, split-keeping}
use Rattle.ds_world.proofs.Stretches.{Keeping, infos}

-- ---- ranges that tile are told by their descriptors and all that they hold

all-inside : (s e : List ℕ) (cells : List Cell) → Inside s e cells → between key_of s e cells ≡ cells
all-inside s e [] all = refl
all-inside s e (p ∷ ps) all = ap (λ t. cond t (p ∷ between key_of s e ps) (between key_of s e ps)) all.0 ∙ ap (λ zs. p ∷ zs) (all-inside s e ps all.1)

first-cells : (s : List ℕ) (r : Range) (rs : List Range) → Tiles s (r ∷ rs) → between key_of s (end_of r) (contents (r ∷ rs)) ≡ r.cells
first-cells s r rs t =
    cut-append key_of s (end_of r) r.cells (contents rs)
    ∙ ap (λ zs. between key_of s (end_of r) r.cells ++ zs) (none-from key_of s (end_of r) (contents rs) (contents-from (end_of r) (end_of r) rs (le_itself (end_of r)) t.1))
    ∙ append_nil (between key_of s (end_of r) r.cells)
    ∙ all-inside s (end_of r) r.cells t.0.inside

pub same-ranges : (s : List ℕ) (rs qs : List Range) → Tiles s rs → Tiles s qs → infos rs ≡ infos qs → contents rs ≡ contents qs → rs ≡ qs
same-ranges s [] [] t u is cs = refl
same-ranges s [] (q ∷ qs) t u is cs = cc
same-ranges s (r ∷ rs) [] t u is cs = cc
same-ranges s (r ∷ rs) (q ∷ qs) t u is cs =
    let info : r.info ≡ q.info = cons_head r.info q.info (infos rs) (infos qs) is in
    let ends : end_of r ≡ end_of q = ap (λ i. i.desc.span.end) info in
    let cells : r.cells ≡ q.cells = sym (first-cells s r rs t) ∙ ap (between key_of s (end_of r)) cs ∙ ap (λ e. between key_of s e (contents (q ∷ qs))) ends ∙ first-cells s q qs u in
    let rest : contents rs ≡ contents qs = append_cancel_left r.cells (contents rs) (contents qs) (cs ∙ ap (λ zs. zs ++ contents qs) (sym cells)) in
    let later : rs ≡ qs = same-ranges (end_of r) rs qs t.1 (subst (λ e. Tiles e qs) (sym ends) u.1) (cons_tail r.info q.info (infos rs) (infos qs) is) rest in
    λ i. record { info = info i; cells = cells i } ∷ later i

-- ---- a change that doesn't look at the cells

pub record SameChange (c d : Change) : Type 0 where
  pub infos : infos c.ranges ≡ infos d.ranges
  pub made : c.made ≡ d.made

abbrev Blind : (Range → List Range → Change) → Type 0
Blind f = (r : Range) (cells : List Cell) (rs qs : List Range) → infos rs ≡ infos qs → SameChange (f r rs) (f (record r { cells = cells }) qs)

behind-same : (i : Info) (r q : Range) (c d : Change) → r.info ≡ i → q.info ≡ i → SameChange c d → SameChange (behind r c) (behind q d)
behind-same i r q c d p e h = record { infos = λ j. (p ∙ sym e) j ∷ h.infos j; made = h.made }

change-same : (f : Range → List Range → Change) (k : List ℕ) (rs qs : List Range) → Blind f → infos rs ≡ infos qs → SameChange (change_at f k rs) (change_at f k qs)
change-same f k [] [] blind is = record { infos = refl; made = refl }
change-same f k [] (q ∷ qs) blind is = cc
change-same f k (r ∷ rs) [] blind is = cc
change-same f k (r ∷ rs) (q ∷ qs) blind is =
    let info : r.info ≡ q.info = cons_head r.info q.info (infos rs) (infos qs) is in
    let rest : infos rs ≡ infos qs = cons_tail r.info q.info (infos rs) (infos qs) is in
    subst (λ i. SameChange (change_at f k (r ∷ rs)) (change_at f k (record { info = i; cells = q.cells } ∷ qs))) info
    (elim (holds_key k r) as (λ b. SameChange (cond b (f r rs) (behind r (change_at f k rs))) (cond b (f (record r { cells = q.cells }) qs) (behind (record r { cells = q.cells }) (change_at f k qs)))) [
      | true ↦ blind r q.cells rs qs rest
      | false ↦ behind-same r.info r (record r { cells = q.cells }) (change_at f k rs) (change_at f k qs) refl refl (change-same f k rs qs blind rest)
    ])

-- ---- both orders

commute : (f : Range → List Range → Change) (k q : List ℕ) (v : Version) (w : World) → Blind f → Keeps w → Keeping w.descs [] w.ranges (change_at f k w.ranges) → Keeping w.descs [] (written q v w.ranges) (change_at f k (written q v w.ranges)) → shifted f k (foreign_at q v w) ≡ foreign_at q v (shifted f k w)
commute f k q v w blind h plain beside =
    let same : SameChange (change_at f k (written q v w.ranges)) (change_at f k w.ranges) =
    change-same f k (written q v w.ranges) w.ranges blind (holding-infos (holds_key q) (λ r. put_cell q (after_foreign v) r.cells) w.ranges) in
    let ranges : (change_at f k (written q v w.ranges)).ranges ≡ written q v (change_at f k w.ranges).ranges =
    same-ranges [] (change_at f k (written q v w.ranges)).ranges (written q v (change_at f k w.ranges).ranges)
    beside.after.tiled
    (tiles-put q (after_foreign v) [] (change_at f k w.ranges).ranges plain.after.tiled)
    (same.infos ∙ sym (holding-infos (holds_key q) (λ r. put_cell q (after_foreign v) r.cells) (change_at f k w.ranges).ranges))
    (beside.same ∙ same-written q v w.ranges (change_at f k w.ranges).ranges h.tiled plain.after.tiled (sym plain.same)) in
    λ i. record w { ranges = ranges i; descs = w.descs ++ same.made i }

split-blind : (top : ℕ) (k : List ℕ) → Blind (split_in top k)
split-blind top k r cells rs qs is =
    let other : Range = record r { cells = cells } in
    elim (can_split top k r) as (λ b. SameChange (cond b (record { ranges = left_part k r ∷ right_part (top + 1) k r ∷ rs; made = (left_part k r).info.desc ∷ (right_part (top + 1) k r).info.desc ∷ [] }) (unchanged (r ∷ rs))) (cond b (record { ranges = left_part k other ∷ right_part (top + 1) k other ∷ qs; made = (left_part k r).info.desc ∷ (right_part (top + 1) k r).info.desc ∷ [] }) (unchanged (other ∷ qs)))) [
      | true ↦ record { infos = ap (λ zs. (left_part k r).info ∷ (right_part (top + 1) k r).info ∷ zs) is; made = refl }
      | false ↦ record { infos = ap (λ zs. r.info ∷ zs) is; made = refl }
    ]

merge-blind : Blind merge_in
merge-blind r cells [] [] is = record { infos = refl; made = refl }
merge-blind r cells [] (q ∷ qs) is = cc
merge-blind r cells (p ∷ ps) [] is = cc
merge-blind r cells (p ∷ ps) (q ∷ qs) is =
    let info : p.info ≡ q.info = cons_head p.info q.info (infos ps) (infos qs) is in
    let rest : infos ps ≡ infos qs = cons_tail p.info q.info (infos ps) (infos qs) is in
    subst (λ i. SameChange (merge_in r (p ∷ ps)) (merge_in (record r { cells = cells }) (record { info = i; cells = q.cells } ∷ qs))) info
    (elim (can_join r p) as (λ b. SameChange (cond b (record { ranges = joined r p ∷ ps; made = (joined r p).info.desc ∷ [] }) (unchanged (r ∷ p ∷ ps))) (cond b (record { ranges = joined (record r { cells = cells }) (record p { cells = q.cells }) ∷ qs; made = (joined r p).info.desc ∷ [] }) (unchanged (record r { cells = cells } ∷ record p { cells = q.cells } ∷ qs)))) [
      | true ↦ record { infos = ap (λ zs. (joined r p).info ∷ zs) rest; made = refl }
      | false ↦ record { infos = ap (λ zs. r.info ∷ p.info ∷ zs) rest; made = refl }
    ])

lease-blind : (n : ℕ) → Blind (lease_in n)
lease-blind n r cells rs qs is =
    elim (can_lease n r) as (λ b. SameChange (unchanged (cond b (with_lease n r) r ∷ rs)) (unchanged (cond b (with_lease n (record r { cells = cells })) (record r { cells = cells }) ∷ qs))) [
      | true ↦ record { infos = ap (λ zs. (with_lease n r).info ∷ zs) is; made = refl }
      | false ↦ record { infos = ap (λ zs. r.info ∷ zs) is; made = refl }
    ]

move-blind : (ns : List ℕ) → Blind (move_in ns)
move-blind ns r cells rs qs is =
    elim (can_move ns r) as (λ b. SameChange (cond b (record { ranges = with_nodes ns r ∷ rs; made = (with_nodes ns r).info.desc ∷ [] }) (unchanged (r ∷ rs))) (cond b (record { ranges = with_nodes ns (record r { cells = cells }) ∷ qs; made = (with_nodes ns r).info.desc ∷ [] }) (unchanged (record r { cells = cells } ∷ qs)))) [
      | true ↦ record { infos = ap (λ zs. (with_nodes ns r).info ∷ zs) is; made = refl }
      | false ↦ record { infos = ap (λ zs. r.info ∷ zs) is; made = refl }
    ]

pub split_beside : (k q : List ℕ) (v : Version) (w : World) → Keeps w → split_at k (foreign_at q v w) ≡ foreign_at q v (split_at k w)
split_beside k q v w h = commute (split_in (greatest_id w.descs) k) k q v w (split-blind (greatest_id w.descs) k) h (split-keeping k w h) (split-keeping k (foreign_at q v w) (foreign-keeps q v w h))

pub merge_beside : (k q : List ℕ) (v : Version) (w : World) → Keeps w → merge_at k (foreign_at q v w) ≡ foreign_at q v (merge_at k w)
merge_beside k q v w h = commute merge_in k q v w merge-blind h (merge-keeping k w h) (merge-keeping k (foreign_at q v w) (foreign-keeps q v w h))

pub lease_beside : (k : List ℕ) (n : ℕ) (q : List ℕ) (v : Version) (w : World) → Keeps w → lease_to k n (foreign_at q v w) ≡ foreign_at q v (lease_to k n w)
lease_beside k n q v w h = commute (lease_in n) k q v w (lease-blind n) h (lease-keeping k n w h) (lease-keeping k n (foreign_at q v w) (foreign-keeps q v w h))

pub move_beside : (k ns q : List ℕ) (v : Version) (w : World) → AreReplicas ns → Keeps w → move_to k ns (foreign_at q v w) ≡ foreign_at q v (move_to k ns w)
move_beside k ns q v w some h = commute (move_in ns) k q v w (move-blind ns) h (move-keeping k ns w some h) (move-keeping k ns (foreign_at q v w) some (foreign-keeps q v w h))

armed-beside : (o : Option RangeDesc) (q : List ℕ) (v : Version) (w : World) → arming o (foreign_at q v w) ≡ foreign_at q v (arming o w)
armed-beside None q v w = refl
armed-beside (Some d) q v w = refl

pub stale_beside : (k : List ℕ) (b : ℕ) (q : List ℕ) (v : Version) (w : World) → stale_by k b (foreign_at q v w) ≡ foreign_at q v (stale_by k b w)
stale_beside k b q v w = armed-beside (back_from b (containing k w.descs)) q v w
