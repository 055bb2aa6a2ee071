-- What a merge keeps of the ranges.
use Rattle.std.proofs.Common.{◌≡◌, ℕ, true, false, cond, not, ◌&&◌, ◌==◌, List, [], ◌∷◌, ◌++◌, refl, sym, ap, ◌∙◌, subst, append_assoc, arith}
use Rattle.ds_base.specs.Order.{key_lt, key_le}
use Rattle.ds_base.proofs.KeyOrder.{key_lt-trans}
use Rattle.ds_base.proofs.OrderedFacts.{le_of_lt, le_of_not_lt}
use Rattle.ds_base.proofs.SmallFacts.{and_first, and_second, and_both, or_first, or_second, or_neither}
use Rattle.ds_desc.specs.Descs.{GenerationsRise}
use Rattle.ds_desc.specs.declared.desc.RangeDesc.{RangeDesc}
use Rattle.ds_rule.specs.Shifts.{can_join, joined, merge_in, unchanged}
use Rattle.ds_rule.specs.Steady.{has_lease, ids_differ}
use Rattle.ds_rule.specs.World.{Range, contents, start_of, end_of, Fits, holds_key}
use Rattle.ds_rule.proofs.Routes.{ascends-append, inside-below, inside-from, le_itself}
use Rattle.ds_world.proofs.Cells.{inside-both, inside-wider}
use Rattle.ds_world.proofs.Newest.{IsOlder, newest-after, newest-made, rise-one}
use Rattle.ds_world.proofs.Stretches.{IsStretch, Keeping, has_id, infos, nothing, other_id, stretch-tail}

join-fits : (s : List ℕ) (r q : Range) → Fits s r → Fits (end_of r) q → Fits s (joined r q)
join-fits s r q a b = record {
  begins = a.begins;
  some = key_lt-trans s (end_of r) (end_of q) a.some b.some;
  rising = ascends-append (end_of r) r.cells q.cells a.rising (inside-below s (end_of r) (end_of r) r.cells (le_itself (end_of r)) a.inside) b.rising (inside-from (end_of r) (end_of q) (end_of r) q.cells (le_itself (end_of r)) b.inside);
  inside = inside-both s (end_of q) r.cells q.cells
      (inside-wider s (end_of r) s (end_of q) r.cells (le_itself s) (le_of_lt (end_of r) (end_of q) b.some) a.inside)
      (inside-wider (end_of r) (end_of q) s (end_of q) q.cells (le_of_lt s (end_of r) a.some) (le_itself (end_of q)) b.inside);
}

-- at each of its keys the last was one of the two
join-older : (ds : List RangeDesc) (s : List ℕ) (r q : Range) (rs : List Range) → IsStretch ds s (r ∷ q ∷ rs) → (k : List ℕ) → holds_key k (joined r q) ≡ true → IsOlder k ds (joined r q).info.desc.generation
join-older ds s r q rs w k h =
    elim (key_lt k (end_of r)) as (λ b. key_lt k (end_of r) ≡ b → IsOlder k ds (joined r q).info.desc.generation) [
      | true ↦ λ low. record {
        last = r.info.desc;
        is = w.newest.0 k (and_both _ _ (and_first _ _ h) low);
        low = omega arith;
      }
      | false ↦ λ high. record {
        last = q.info.desc;
        is = w.newest.1.0 k (and_both _ _ (subst (λ z. key_le z k ≡ true) (sym w.tiled.1.0.begins) (le_of_not_lt k (end_of r) high)) (and_second (key_le (start_of r) k) _ h));
        low = omega arith;
      }
    ] refl

join-stretch : (ds : List RangeDesc) (s : List ℕ) (r q : Range) (rs : List Range) → IsStretch ds s (r ∷ q ∷ rs) → IsStretch (ds ++ (joined r q).info.desc ∷ []) s (joined r q ∷ rs)
join-stretch ds s r q rs w = record {
  tiled = (join-fits s r q w.tiled.0 w.tiled.1.0, w.tiled.1.1);
  newest = (
    newest-made ds ((joined r q).info.desc ∷ []) (joined r q) (λ k h. ap (λ t. cond t ((joined r q).info.desc ∷ []) []) h),
    newest-after ds ((joined r q).info.desc ∷ []) (end_of q) (end_of q) rs (le_itself (end_of q)) (le_itself (end_of q), tt) w.tiled.1.1 w.newest.1.1,
  );
  ids =
      ap (λ t. not t && ids_differ (infos rs)) (or_second (q.info.desc.id == r.info.desc.id) _ (other_id ds s r (q ∷ rs) w))
      ∙ and_second (not (has_id q.info.desc.id (infos rs))) _ (stretch-tail ds s r (q ∷ rs) w).ids;
  leases = and_both _ _ (and_first (has_lease r.info) _ w.leases) (and_second (has_lease q.info) _ (stretch-tail ds s r (q ∷ rs) w).leases);
}

join-keeps : (ds : List RangeDesc) (s : List ℕ) (r q : Range) (rs : List Range) → GenerationsRise ds → IsStretch ds s (r ∷ q ∷ rs) → Keeping ds s (r ∷ q ∷ rs) (record { ranges = joined r q ∷ rs; made = (joined r q).info.desc ∷ [] })
join-keeps ds s r q rs rise w = record {
  after = join-stretch ds s r q rs w;
  rise = rise-one ds (joined r q).info.desc rise (join-older ds s r q rs w);
  from = (subst (λ z. key_le s z ≡ true) (sym w.tiled.0.begins) (le_itself s), tt);
  fresh = λ id low h. or_neither _ _ (or_first _ _ h) (or_second (q.info.desc.id == id) _ (or_second (r.info.desc.id == id) _ h));
  same = append_assoc r.cells q.cells (contents rs);
}

pub merge-keeps : (ds : List RangeDesc) (s : List ℕ) (r : Range) (rs : List Range) → GenerationsRise ds → IsStretch ds s (r ∷ rs) → Keeping ds s (r ∷ rs) (merge_in r rs)
merge-keeps ds s r [] rise w = nothing ds s (r ∷ []) rise w
merge-keeps ds s r (q ∷ rs) rise w =
    elim (can_join r q) as (λ b. Keeping ds s (r ∷ q ∷ rs) (cond b (record { ranges = joined r q ∷ rs; made = (joined r q).info.desc ∷ [] }) (unchanged (r ∷ q ∷ rs)))) [
      | true ↦ join-keeps ds s r q rs rise w
      | false ↦ nothing ds s (r ∷ q ∷ rs) rise w
    ]
