-- What the change of a lease, and a move to other nodes, keep of the ranges.
use Rattle.std.proofs.Common.{◌≡◌, ℕ, ◌+◌, true, false, cond, ◌&&◌, ◌||◌, List, [], ◌∷◌, ◌++◌, refl, sym, ap, ◌∙◌, subst, eq-eqb, arith}
use Rattle.std.specs.List.{list_all}
use Rattle.ds_base.specs.Order.{key_le}
use Rattle.ds_base.proofs.SmallFacts.{and_first, and_second, append_nil}
use Rattle.ds_desc.specs.Descs.{GenerationsRise}
use Rattle.ds_desc.specs.Replicas.{AreReplicas}
use Rattle.ds_desc.specs.declared.desc.Lease.{Lease}
use Rattle.ds_desc.specs.declared.desc.RangeDesc.{RangeDesc}
use Rattle.ds_rule.specs.Shifts.{can_lease, can_move, lease_among, lease_in, move_in, unchanged, with_lease, with_nodes}
use Rattle.ds_rule.specs.Steady.{has_lease}
use Rattle.ds_rule.specs.World.{Range, end_of, first_or, is_replica}
use Rattle.ds_rule.proofs.Routes.{le_itself}
use Rattle.ds_world.proofs.Newest.{newest-after, newest-made, rise-one}
use Rattle.ds_world.proofs.Stretches.{IsStretch, Keeping, infos, nothing}

leased : (ds : List RangeDesc) (s : List ℕ) (n : ℕ) (r : Range) (rs : List Range) → can_lease n r ≡ true → IsStretch ds s (r ∷ rs) → IsStretch ds s (with_lease n r ∷ rs)
leased ds s n r rs can w = record {
  tiled = (record { begins = w.tiled.0.begins; some = w.tiled.0.some; rising = w.tiled.0.rising; inside = w.tiled.0.inside }, w.tiled.1);
  newest = (w.newest.0, w.newest.1);
  ids = w.ids;
  leases = ap (λ t. t && list_all has_lease (infos rs)) (and_first (is_replica n r.info.desc.nodes) _ (and_first _ _ can)) ∙ and_second (has_lease r.info) _ w.leases;
}

pub lease-keeps : (ds : List RangeDesc) (s : List ℕ) (n : ℕ) (r : Range) (rs : List Range) → GenerationsRise ds → IsStretch ds s (r ∷ rs) → Keeping ds s (r ∷ rs) (lease_in n r rs)
lease-keeps ds s n r rs rise w =
    elim (can_lease n r) as (λ b. can_lease n r ≡ b → Keeping ds s (r ∷ rs) (unchanged (cond b (with_lease n r) r ∷ rs))) [
      | true ↦ λ can. record {
        after = subst (λ z. IsStretch z s (with_lease n r ∷ rs)) (sym (append_nil ds)) (leased ds s n r rs can w);
        rise = subst GenerationsRise (sym (append_nil ds)) rise;
        from = tt;
        fresh = λ id low h. h;
        same = refl;
      }
      | false ↦ λ can. nothing ds s (r ∷ rs) rise w
    ] refl

-- ---- a move

first-is-one : (ns : List ℕ) → AreReplicas ns → is_replica (first_or 0 ns) ns ≡ true
first-is-one [] h = cc
first-is-one (n ∷ ns) h = ap (λ t. t || is_replica n ns) (eq-eqb n n refl)

-- the lease is with one of the new nodes
among : (ns : List ℕ) (l : Lease) → AreReplicas ns → is_replica (lease_among ns l).node ns ≡ true
among ns l some =
    elim (is_replica l.node ns) as (λ b. is_replica l.node ns ≡ b → is_replica (cond b l (record { node = first_or 0 ns; number = l.number + 1 })).node ns ≡ true) [
      | true ↦ λ h. h
      | false ↦ λ h. first-is-one ns some
    ] refl

moved : (ds : List RangeDesc) (s : List ℕ) (ns : List ℕ) (r : Range) (rs : List Range) → AreReplicas ns → IsStretch ds s (r ∷ rs) → IsStretch (ds ++ (with_nodes ns r).info.desc ∷ []) s (with_nodes ns r ∷ rs)
moved ds s ns r rs some w = record {
  tiled = (record { begins = w.tiled.0.begins; some = w.tiled.0.some; rising = w.tiled.0.rising; inside = w.tiled.0.inside }, w.tiled.1);
  newest = (
    newest-made ds ((with_nodes ns r).info.desc ∷ []) (with_nodes ns r) (λ k h. ap (λ t. cond t ((with_nodes ns r).info.desc ∷ []) []) h),
    newest-after ds ((with_nodes ns r).info.desc ∷ []) (end_of r) (end_of r) rs (le_itself (end_of r)) (le_itself (end_of r), tt) w.tiled.1 w.newest.1,
  );
  ids = w.ids;
  leases = ap (λ t. t && list_all has_lease (infos rs)) (among ns r.info.lease some) ∙ and_second (has_lease r.info) _ w.leases;
}

pub move-keeps : (ds : List RangeDesc) (s : List ℕ) (ns : List ℕ) (r : Range) (rs : List Range) → AreReplicas ns → GenerationsRise ds → IsStretch ds s (r ∷ rs) → Keeping ds s (r ∷ rs) (move_in ns r rs)
move-keeps ds s ns r rs some rise w =
    elim (can_move ns r) as (λ b. Keeping ds s (r ∷ rs) (cond b (record { ranges = with_nodes ns r ∷ rs; made = (with_nodes ns r).info.desc ∷ [] }) (unchanged (r ∷ rs)))) [
      | true ↦ record {
        after = moved ds s ns r rs some w;
        rise = rise-one ds (with_nodes ns r).info.desc rise (λ k h. record { last = r.info.desc; is = w.newest.0 k h; low = omega arith });
        from = (subst (λ z. key_le s z ≡ true) (sym w.tiled.0.begins) (le_itself s), tt);
        fresh = λ id low h. h;
        same = refl;
      }
      | false ↦ nothing ds s (r ∷ rs) rise w
    ]
