-- The first world keeps what every world keeps.
use Rattle.std.proofs.Common.{◌≡◌, ℕ, ◌+◌, ◌<◌, true, false, not, cond, ◌&&◌, ◌||◌, ◌==◌, List, [], ◌∷◌, map, refl, sym, ap, ◌∙◌, subst, ne_eqb, arith}
use Rattle.std.specs.List.{list_any, list_all}
use Rattle.std.proofs.Math.Bool.{and-false}
use Rattle.ds_base.specs.Order.{key_le}
use Rattle.ds_base.specs.declared.value.Dir.TheVariants.{Forward}
use Rattle.ds_base.proofs.OrderedFacts.{le_of_lt, le_trans, not_lt_of_le}
use Rattle.ds_base.proofs.SmallFacts.{and_first, and_second}
use Rattle.ds_desc.specs.Contains.{contains}
use Rattle.ds_desc.specs.Descs.{Newer, containing}
use Rattle.ds_desc.specs.declared.desc.RangeDesc.{RangeDesc}
use Rattle.ds_rule.specs.declared.cluster.ClusterRange.{ClusterRange}
use Rattle.ds_rule.specs.Begin.{first_world, is_leased, ranges_of}
use Rattle.ds_rule.specs.Keeping.{IsNewest, Keeps}
use Rattle.ds_rule.specs.Pieces.{Each}
use Rattle.ds_rule.specs.Steady.{has_lease, ids_differ}
use Rattle.ds_rule.specs.World.{Range, start_of, end_of, Tiles, holds_key}
use Rattle.ds_rule.proofs.Routes.{le_itself}
use Rattle.ds_world.proofs.Newest.{newest-made, none-before}

other-id : (id n : ℕ) (rs : List ClusterRange) → id < n → list_any (λ j. j.desc.id == id) (map (λ r. r.info) (ranges_of n rs)) ≡ false
other-id id n [] low = refl
other-id id n (r ∷ rs) low =
    ap (λ t. t || list_any (λ j. j.desc.id == id) (map (λ r. r.info) (ranges_of (n + 1) rs))) (ne_eqb n id (λ e. omega (arith, e, low)))
    ∙ other-id id (n + 1) rs (omega (arith, low))

pub first-ids : (id : ℕ) (rs : List ClusterRange) → ids_differ (map (λ r. r.info) (ranges_of id rs)) ≡ true
first-ids id [] = refl
first-ids id (r ∷ rs) = ap (λ t. not t && ids_differ (map (λ r. r.info) (ranges_of (id + 1) rs))) (other-id id (id + 1) rs (omega arith)) ∙ first-ids (id + 1) rs

pub first-leases : (id : ℕ) (rs : List ClusterRange) → list_all is_leased rs ≡ true → list_all has_lease (map (λ r. r.info) (ranges_of id rs)) ≡ true
first-leases id [] h = refl
first-leases id (r ∷ rs) h =
    ap (λ t. t && list_all has_lease (map (λ r. r.info) (ranges_of (id + 1) rs))) (and_first (is_leased r) _ h) ∙ first-leases (id + 1) rs (and_second (is_leased r) _ h)

-- ---- each range's descriptor is the only one of its keys

abbrev descs_of : List Range → List RangeDesc
descs_of rs = map (λ r. r.info.desc) rs

start-later : (m s : List ℕ) (rs : List Range) → key_le m s ≡ true → Tiles s rs → Each (λ d. key_le m d.span.start ≡ true) (descs_of rs)
start-later m s [] low t = tt
start-later m s (r ∷ rs) low t = (
  subst (λ z. key_le m z ≡ true) (sym t.0.begins) low,
  start-later m (end_of r) rs (le_trans m s (end_of r) low (le_of_lt s (end_of r) t.0.some)) t.1,
)

abbrev HasOne : List RangeDesc → Range → Type 0
HasOne ds r = (k : List ℕ) → holds_key k r ≡ true → containing k ds ≡ r.info.desc ∷ []

-- a range that ends before them has none of their keys
one-past : (r : Range) (ds : List RangeDesc) (m : List ℕ) (rs : List Range) → key_le (end_of r) m ≡ true → Tiles m rs → Each (HasOne ds) rs → Each (HasOne (r.info.desc ∷ ds)) rs
one-past r ds m [] low t one = tt
one-past r ds m (q ∷ qs) low t one = (
  (λ k h.
      let from : key_le (end_of r) k ≡ true = le_trans (end_of r) (start_of q) k (subst (λ z. key_le (end_of r) z ≡ true) (sym t.0.begins) low) (and_first _ _ h) in
      let out : contains Forward k r.info.desc.span ≡ false = ap (λ b. key_le (start_of r) k && b) (not_lt_of_le (end_of r) k from) ∙ and-false (key_le (start_of r) k) in
      ap (λ b. cond b (r.info.desc ∷ containing k ds) (containing k ds)) out ∙ one.0 k h),
  one-past r ds (end_of q) qs (le_trans (end_of r) m (end_of q) low (le_of_lt m (end_of q) t.0.some)) t.1 one.1,
)

none-later : (r : Range) (rs : List Range) (k : List ℕ) → Tiles (end_of r) rs → holds_key k r ≡ true → containing k (descs_of rs) ≡ []
none-later r rs k t h = none-before k (end_of r) (descs_of rs) (and_second (key_le (start_of r) k) _ h) (start-later (end_of r) (end_of r) rs (le_itself (end_of r)) t)

all-one : (s : List ℕ) (rs : List Range) → Tiles s rs → Each (HasOne (descs_of rs)) rs
all-one s [] t = tt
all-one s (r ∷ rs) t = (
  (λ k h. ap (λ b. cond b (r.info.desc ∷ containing k (descs_of rs)) (containing k (descs_of rs))) h ∙ ap (λ ds. r.info.desc ∷ ds) (none-later r rs k t.1 h)),
  one-past r (descs_of rs) (end_of r) rs (le_itself (end_of r)) t.1 (all-one (end_of r) rs t.1),
)

all-newest : (ds : List RangeDesc) (rs : List Range) → Each (HasOne ds) rs → Each (IsNewest ds) rs
all-newest ds [] one = tt
all-newest ds (r ∷ rs) one = (newest-made [] ds r one.0, all-newest ds rs one.1)

first-rise : (s : List ℕ) (rs : List Range) (k : List ℕ) → Tiles s rs → Newer (containing k (descs_of rs))
first-rise s [] k t = tt
first-rise s (r ∷ rs) k t =
    elim (holds_key k r) as (λ b. holds_key k r ≡ b → Newer (cond b (r.info.desc ∷ containing k (descs_of rs)) (containing k (descs_of rs)))) [
      | true ↦ λ h. subst (λ ds. Newer (r.info.desc ∷ ds)) (sym (none-later r rs k t.1 h)) (tt, tt)
      | false ↦ λ h. first-rise (end_of r) rs k t.1
    ] refl

pub first-keeps : (rs : List ClusterRange) → Tiles [] (ranges_of 1 rs) → list_all is_leased rs ≡ true → Keeps (first_world rs)
first-keeps rs t leased = record {
  tiled = t;
  newest = all-newest (descs_of (ranges_of 1 rs)) (ranges_of 1 rs) (all-one [] (ranges_of 1 rs) t);
  rise = λ k. first-rise [] (ranges_of 1 rs) k t;
  ids = first-ids 1 rs;
  leases = first-leases 1 rs leased;
}
