-- Two changes of leases, in either order, where they are of different ranges.
use Rattle.std.proofs.Common.{◌≡◌, ℕ, Bool, true, false, cond, ◌&&◌, List, [], ◌∷◌, Option, Some, None, refl, sym, ap, ◌∙◌}
use Rattle.ds_base.proofs.TestFacts.{never}
use Rattle.ds_desc.specs.Descs.{back_from, containing}
use Rattle.ds_desc.specs.declared.desc.RangeDesc.{RangeDesc}
use Rattle.ds_rule.specs.Pieces.{Each}
use Rattle.ds_rule.specs.Shifts.{arming, behind, can_lease, change_at, lease_in, lease_to, stale_by, with_lease}
use Rattle.ds_rule.specs.World.{World, Range, holds_key}
use Rattle.ds_world.specs.Laws.{InDifferentRanges}
use Rattle.ds_world.proofs.Shifted.{lease_descs}

-- the range with the lease, where that can be
abbrev pub leased : ℕ → Range → Range
leased n r = cond (can_lease n r) (with_lease n r) r

pub leased-holds : (n : ℕ) (q : List ℕ) (r : Range) → holds_key q (leased n r) ≡ holds_key q r
leased-holds n q r = elim (can_lease n r) as (λ b. holds_key q (cond b (with_lease n r) r) ≡ holds_key q r) [ true ↦ refl | false ↦ refl ]

abbrev pub all_leased : List ℕ → ℕ → List Range → List Range
all_leased k n rs = (change_at (lease_in n) k rs).ranges

pub lease-here : (k : List ℕ) (n : ℕ) (r : Range) (rs : List Range) → holds_key k r ≡ true → all_leased k n (r ∷ rs) ≡ leased n r ∷ rs
lease-here k n r rs h = ap (λ b. (cond b (lease_in n r rs) (behind r (change_at (lease_in n) k rs))).ranges) h

pub lease-later : (k : List ℕ) (n : ℕ) (r : Range) (rs : List Range) → holds_key k r ≡ false → all_leased k n (r ∷ rs) ≡ r ∷ all_leased k n rs
lease-later k n r rs h = ap (λ b. (cond b (lease_in n r rs) (behind r (change_at (lease_in n) k rs))).ranges) h

-- the first of two keys is in this range, and the second is not
one-here : (k q : List ℕ) (n m : ℕ) (r : Range) (rs : List Range) → holds_key k r ≡ true → holds_key q r ≡ false → all_leased k n (all_leased q m (r ∷ rs)) ≡ all_leased q m (all_leased k n (r ∷ rs))
one-here k q n m r rs here not =
    ap (all_leased k n) (lease-later q m r rs not) ∙ lease-here k n r (all_leased q m rs) here
    ∙ sym (ap (all_leased q m) (lease-here k n r rs here) ∙ lease-later q m (leased n r) rs (leased-holds n q r ∙ not))

leases-commute : (k q : List ℕ) (n m : ℕ) (rs : List Range) → Each (λ r. (holds_key k r && holds_key q r) ≡ false) rs → all_leased k n (all_leased q m rs) ≡ all_leased q m (all_leased k n rs)
leases-commute k q n m [] apart = refl
leases-commute k q n m (r ∷ rs) apart = by (holds_key k r) (holds_key q r) refl refl apart.0 (leases-commute k q n m rs apart.1)
  where
    by : (a b : Bool) → holds_key k r ≡ a → holds_key q r ≡ b → (a && b) ≡ false → all_leased k n (all_leased q m rs) ≡ all_leased q m (all_leased k n rs) → all_leased k n (all_leased q m (r ∷ rs)) ≡ all_leased q m (all_leased k n (r ∷ rs))
    by true true h g two rest = absurd (never (sym two))
    by true false h g two rest = one-here k q n m r rs h g
    by false true h g two rest = sym (one-here q k m n r rs g h)
    by false false h g two rest =
        ap (all_leased k n) (lease-later q m r rs g) ∙ lease-later k n r (all_leased q m rs) h
        ∙ ap (λ qs. r ∷ qs) rest
        ∙ sym (ap (all_leased q m) (lease-later k n r rs h) ∙ lease-later q m r (all_leased k n rs) g)

pub lease_lease : (k q : List ℕ) (n m : ℕ) (w : World) → InDifferentRanges k q w → lease_to k n (lease_to q m w) ≡ lease_to q m (lease_to k n w)
lease_lease k q n m w apart =
    let ranges = leases-commute k q n m w.ranges apart in
    let descs = lease_descs k n (lease_to q m w) ∙ lease_descs q m w ∙ sym (lease_descs q m (lease_to k n w) ∙ lease_descs k n w) in
    λ i. record w { ranges = ranges i; descs = descs i }

-- an old descriptor that is armed has no part in it

armed-leased : (o : Option RangeDesc) (k : List ℕ) (n : ℕ) (w : World) → lease_to k n (arming o w) ≡ arming o (lease_to k n w)
armed-leased None k n w = refl
armed-leased (Some d) k n w = refl

pub lease_stale : (k q : List ℕ) (n b : ℕ) (w : World) → lease_to k n (stale_by q b w) ≡ stale_by q b (lease_to k n w)
lease_stale k q n b w =
    armed-leased (back_from b (containing q w.descs)) k n w
    ∙ ap (λ ds. arming (back_from b (containing q ds)) (lease_to k n w)) (sym (lease_descs k n w))
