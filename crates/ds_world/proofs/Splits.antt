-- What a split keeps of the ranges.
use Rattle.std.proofs.Common.{◌≡◌, ℕ, ◌+◌, ◌≤◌, ◌<◌, Bool, true, false, cond, not, ◌&&◌, ◌||◌, ◌==◌, List, [], ◌∷◌, ◌++◌, refl, sym, ap, ◌∙◌, subst, append_assoc, ne_eqb, arith}
use Rattle.std.proofs.Math.Bool.{and-false}
use Rattle.ds_base.specs.Order.{key_lt, key_le}
use Rattle.ds_base.specs.declared.value.Dir.TheVariants.{Forward}
use Rattle.ds_base.proofs.OrderedFacts.{le_of_lt, le_trans, not_le_of_lt, not_lt_of_le}
use Rattle.ds_base.proofs.KeyOrder.{key_lt-trans}
use Rattle.ds_base.proofs.SmallFacts.{and_first, and_second, and_both, or_first, or_second, or_neither}
use Rattle.ds_desc.specs.Contains.{contains}
use Rattle.ds_desc.specs.Descs.{GenerationsRise, containing, greatest_id}
use Rattle.ds_desc.specs.declared.desc.RangeDesc.{RangeDesc}
use Rattle.ds_rule.specs.Keeping.{IsNewest}
use Rattle.ds_rule.specs.Pieces.{Each}
use Rattle.ds_rule.specs.Shifts.{can_split, left_part, right_part, split_in, unchanged}
use Rattle.ds_rule.specs.Steady.{has_lease}
use Rattle.ds_rule.specs.World.{Range, contents, start_of, end_of, Fits, Tiles, holds_key}
use Rattle.ds_rule.proofs.Routes.{le_itself}
use Rattle.ds_world.proofs.Cells.{ascends-filter, both-parts, high_cells, inside-high, inside-low, low_cells}
use Rattle.ds_world.proofs.Newest.{id-known, last-beside, newest-after, newest-made, rise-one}
use Rattle.ds_world.proofs.Stretches.{IsStretch, Keeping, has_id, infos, nothing, other_id}

-- no range has a new id
new-id : (ds : List RangeDesc) (s : List ℕ) (rs : List Range) (n : ℕ) → greatest_id ds < n → Tiles s rs → Each (IsNewest ds) rs → has_id n (infos rs) ≡ false
new-id ds s [] n high t new = refl
new-id ds s (r ∷ rs) n high t new =
    let known : r.info.desc.id ≤ greatest_id ds = id-known ds s r t.0 new.0 in
    or_neither _ _ (ne_eqb r.info.desc.id n (λ e. omega (arith, e, known))) (new-id ds (end_of r) rs n high t.1 new.1)

-- where a range is split in two
record IsSplit (ds : List RangeDesc) (s k : List ℕ) (r : Range) (rs : List Range) : Type 0 where
  above : key_lt (start_of r) k ≡ true
  below : key_lt k (end_of r) ≡ true
  before : IsStretch ds s (r ∷ rs)

abbrev parts : ℕ → List ℕ → Range → List RangeDesc
parts id k r = (left_part k r).info.desc ∷ (right_part id k r).info.desc ∷ []

left-made : (id : ℕ) (k : List ℕ) (r : Range) (q : List ℕ) → holds_key q (left_part k r) ≡ true → containing q (parts id k r) ≡ (left_part k r).info.desc ∷ []
left-made id k r q h =
    let right : contains Forward q (right_part id k r).info.desc.span ≡ false = ap (λ t. t && key_lt q (end_of r)) (not_le_of_lt q k (and_second (key_le (start_of r) q) _ h)) in
    ap (λ t. cond t ((left_part k r).info.desc ∷ containing q ((right_part id k r).info.desc ∷ [])) (containing q ((right_part id k r).info.desc ∷ []))) h
    ∙ ap (λ t. (left_part k r).info.desc ∷ cond t ((right_part id k r).info.desc ∷ []) []) right

not-left : (k : List ℕ) (r : Range) (q : List ℕ) → key_le k q ≡ true → contains Forward q (left_part k r).info.desc.span ≡ false
not-left k r q from = ap (λ t. key_le (start_of r) q && t) (not_lt_of_le k q from) ∙ and-false (key_le (start_of r) q)

right-made : (id : ℕ) (k : List ℕ) (r : Range) (q : List ℕ) → holds_key q (right_part id k r) ≡ true → containing q (parts id k r) ≡ (right_part id k r).info.desc ∷ []
right-made id k r q h =
    ap (λ t. cond t ((left_part k r).info.desc ∷ containing q ((right_part id k r).info.desc ∷ [])) (containing q ((right_part id k r).info.desc ∷ []))) (not-left k r q (and_first _ _ h))
    ∙ ap (λ t. cond t ((right_part id k r).info.desc ∷ []) []) h

split-fits : (ds : List RangeDesc) (s k : List ℕ) (id : ℕ) (r : Range) (rs : List Range) → IsSplit ds s k r rs → Tiles s (left_part k r ∷ right_part id k r ∷ rs)
split-fits ds s k id r rs w =
    let fits : Fits s r = w.before.tiled.0 in (
      record {
        begins = fits.begins;
        some = subst (λ z. key_lt z k ≡ true) fits.begins w.above;
        rising = ascends-filter (λ p. key_lt p.0 k) r.cells fits.rising;
        inside = inside-low s (end_of r) k r.cells fits.inside;
      },
      (
        record {
          begins = refl;
          some = w.below;
          rising = ascends-filter (λ p. key_le k p.0) r.cells fits.rising;
          inside = inside-high s (end_of r) k r.cells fits.inside;
        },
        w.before.tiled.1,
      ),
    )

split-ids : (ds : List RangeDesc) (s k : List ℕ) (r : Range) (rs : List Range) → IsSplit ds s k r rs → (t : Bool) → t ≡ has_id r.info.desc.id (infos rs) → not ((greatest_id ds + 1 == r.info.desc.id) || t) && (not (has_id (greatest_id ds + 1) (infos rs)) && true) ≡ true
split-ids ds s k r rs w t is =
    let known : r.info.desc.id ≤ greatest_id ds = id-known ds s r w.before.tiled.0 w.before.newest.0 in
    let one : (greatest_id ds + 1 == r.info.desc.id) ≡ false = ne_eqb (greatest_id ds + 1) r.info.desc.id (λ e. omega (arith, e, known)) in
    let two : t ≡ false = is ∙ other_id ds s r rs w.before in
    let three : has_id (greatest_id ds + 1) (infos rs) ≡ false = new-id ds (end_of r) rs (greatest_id ds + 1) (omega arith) w.before.tiled.1 w.before.newest.1 in
    ap (λ b. not (b || t) && (not (has_id (greatest_id ds + 1) (infos rs)) && true)) one
    ∙ ap (λ b. not b && (not (has_id (greatest_id ds + 1) (infos rs)) && true)) two
    ∙ ap (λ b. not b && true) three

split-stretch : (ds : List RangeDesc) (s k : List ℕ) (r : Range) (rs : List Range) → IsSplit ds s k r rs → IsStretch (ds ++ parts (greatest_id ds + 1) k r) s (left_part k r ∷ right_part (greatest_id ds + 1) k r ∷ rs)
split-stretch ds s k r rs w =
    let id = greatest_id ds + 1 in
    record {
      tiled = split-fits ds s k id r rs w;
      newest = (
        newest-made ds (parts id k r) (left_part k r) (left-made id k r),
        (
          newest-made ds (parts id k r) (right_part id k r) (right-made id k r),
          newest-after ds (parts id k r) (end_of r) (end_of r) rs (le_itself (end_of r)) (le_of_lt k (end_of r) w.below, (le_itself (end_of r), tt)) w.before.tiled.1 w.before.newest.1,
        ),
      );
      ids =
          ap (λ b. not ((id == r.info.desc.id) || has_id r.info.desc.id (infos rs)) && (not (has_id id (infos rs)) && b)) (and_second (not (has_id r.info.desc.id (infos rs))) _ w.before.ids)
          ∙ split-ids ds s k r rs w (has_id r.info.desc.id (infos rs)) refl;
      leases = and_both _ _ (and_first (has_lease r.info) _ w.before.leases) w.before.leases;
    }

split-rise : (ds : List RangeDesc) (s k : List ℕ) (r : Range) (rs : List Range) (id : ℕ) → GenerationsRise ds → IsSplit ds s k r rs → GenerationsRise (ds ++ parts id k r)
split-rise ds s k r rs id rise w =
    let left = (left_part k r).info.desc in
    let right = (right_part id k r).info.desc in
    let one : GenerationsRise (ds ++ left ∷ []) = rise-one ds left rise (λ q h. record {
      last = r.info.desc;
      is = w.before.newest.0 q (and_both _ _ (and_first (key_le (start_of r) q) _ h) (key_lt-trans q k (end_of r) (and_second (key_le (start_of r) q) _ h) w.below));
      low = omega arith;
    }) in
    subst GenerationsRise (append_assoc ds (left ∷ []) (right ∷ []))
    (rise-one (ds ++ left ∷ []) right one (λ q h. record {
      last = r.info.desc;
      is = last-beside q ds (left ∷ []) r.info.desc (ap (λ t. cond t (left ∷ []) []) (not-left k r q (and_first _ _ h)))
          (w.before.newest.0 q (and_both _ _ (le_trans (start_of r) k q (le_of_lt (start_of r) k w.above) (and_first _ _ h)) (and_second (key_le k q) _ h)));
      low = omega arith;
    }))

split-fresh : (top : ℕ) (r : Range) (rs : List Range) (id : ℕ) → id ≤ top → has_id id (infos (r ∷ rs)) ≡ false → (r.info.desc.id == id) || ((top + 1 == id) || has_id id (infos rs)) ≡ false
split-fresh top r rs id low h =
    or_neither _ _ (or_first _ _ h) (or_neither _ _ (ne_eqb (top + 1) id (λ e. omega (arith, e, low))) (or_second (r.info.desc.id == id) _ h))

split-cut : (ds : List RangeDesc) (s k : List ℕ) (r : Range) (rs : List Range) → GenerationsRise ds → IsSplit ds s k r rs → Keeping ds s (r ∷ rs) (record { ranges = left_part k r ∷ right_part (greatest_id ds + 1) k r ∷ rs; made = parts (greatest_id ds + 1) k r })
split-cut ds s k r rs rise w =
    let start : key_le s (start_of r) ≡ true = subst (λ z. key_le s z ≡ true) (sym w.before.tiled.0.begins) (le_itself s) in
    record {
      after = split-stretch ds s k r rs w;
      rise = split-rise ds s k r rs (greatest_id ds + 1) rise w;
      from = (start, (le_trans s (start_of r) k start (le_of_lt (start_of r) k w.above), tt));
      fresh = split-fresh (greatest_id ds) r rs;
      same = sym (append_assoc (low_cells k r.cells) (high_cells k r.cells) (contents rs)) ∙ ap (λ zs. zs ++ contents rs) (both-parts k r.cells w.before.tiled.0.rising);
    }

pub split-keeps : (ds : List RangeDesc) (s k : List ℕ) (r : Range) (rs : List Range) → GenerationsRise ds → holds_key k r ≡ true → IsStretch ds s (r ∷ rs) → Keeping ds s (r ∷ rs) (split_in (greatest_id ds) k r rs)
split-keeps ds s k r rs rise held w =
    elim (can_split (greatest_id ds) k r) as (λ b. can_split (greatest_id ds) k r ≡ b → Keeping ds s (r ∷ rs) (cond b (record { ranges = left_part k r ∷ right_part (greatest_id ds + 1) k r ∷ rs; made = parts (greatest_id ds + 1) k r }) (unchanged (r ∷ rs)))) [
      | true ↦ λ can. split-cut ds s k r rs rise (record {
        above = and_first (key_lt (start_of r) k) _ (and_first _ _ can);
        below = and_second (key_le (start_of r) k) _ held;
        before = w;
      })
      | false ↦ λ can. nothing ds s (r ∷ rs) rise w
    ] refl
