-- A change of a lease beside a split, and beside a move, of another range.
use Rattle.std.proofs.Common.{◌≡◌, ℕ, ◌+◌, Bool, true, false, cond, ◌&&◌, List, [], ◌∷◌, ◌++◌, refl, sym, ap, ◌∙◌}
use Rattle.std.proofs.Math.Bool.{and-false}
use Rattle.ds_base.specs.Order.{key_le, key_lt}
use Rattle.ds_base.proofs.KeyOrder.{key_lt-trans}
use Rattle.ds_base.proofs.OrderedFacts.{le_trans}
use Rattle.ds_base.proofs.SmallFacts.{and_first, and_second}
use Rattle.ds_base.proofs.TestFacts.{never, not_both}
use Rattle.ds_desc.specs.Descs.{greatest_id}
use Rattle.ds_desc.specs.declared.desc.RangeDesc.{RangeDesc}
use Rattle.ds_rule.specs.Pieces.{Each}
use Rattle.ds_rule.specs.Shifts.{Change, behind, can_move, can_split, change_at, left_part, lease_to, move_in, move_to, right_part, split_at, split_in, unchanged, with_nodes}
use Rattle.ds_rule.specs.World.{World, Range, end_of, holds_key, start_of}
use Rattle.ds_world.specs.Laws.{InDifferentRanges}
use Rattle.ds_world.proofs.Apart.{all_leased, lease-here, lease-later, leased, leased-holds}
use Rattle.ds_world.proofs.Shifted.{lease_descs}

-- ---- a change that puts some ranges in the place of one

-- whatever follows it
abbrev pub IsLocal : (Range → List Range → Change) → (Range → List Range) → (Range → List RangeDesc) → Type 0
IsLocal f parts made = (r : Range) (rs : List Range) → f r rs ≡ record { ranges = parts r ++ rs; made = made r }

-- none of them holds the key where the range doesn't
abbrev pub HoldsNoMore : (Range → List Range) → List ℕ → List ℕ → Type 0
HoldsNoMore parts k q = (r : Range) → holds_key q r ≡ true → holds_key k r ≡ false → Each (λ p. holds_key k p ≡ false) (parts r)

change-here : (f : Range → List Range → Change) (q : List ℕ) (r : Range) (rs : List Range) → holds_key q r ≡ true → change_at f q (r ∷ rs) ≡ f r rs
change-here f q r rs h = ap (λ b. cond b (f r rs) (behind r (change_at f q rs))) h

change-later : (f : Range → List Range → Change) (q : List ℕ) (r : Range) (rs : List Range) → holds_key q r ≡ false → change_at f q (r ∷ rs) ≡ behind r (change_at f q rs)
change-later f q r rs h = ap (λ b. cond b (f r rs) (behind r (change_at f q rs))) h

leased-behind : (k : List ℕ) (n : ℕ) (ps rs : List Range) → Each (λ p. holds_key k p ≡ false) ps → all_leased k n (ps ++ rs) ≡ ps ++ all_leased k n rs
leased-behind k n [] rs none = refl
leased-behind k n (p ∷ ps) rs none = lease-later k n p (ps ++ rs) none.0 ∙ ap (λ qs. p ∷ qs) (leased-behind k n ps rs none.1)

-- the change and the lease, in either order
record BesideLease (f : Range → List Range → Change) (k q : List ℕ) (n : ℕ) (rs : List Range) : Type 0 where
  ranges : all_leased k n (change_at f q rs).ranges ≡ (change_at f q (all_leased k n rs)).ranges
  made : (change_at f q rs).made ≡ (change_at f q (all_leased k n rs)).made

lease-first : (f : Range → List Range → Change) (k q : List ℕ) (n : ℕ) (r : Range) (rs : List Range) → holds_key k r ≡ true → holds_key q r ≡ false → BesideLease f k q n (r ∷ rs)
lease-first f k q n r rs here not =
    let later = change-later f q r rs not in
    let leads = ap (change_at f q) (lease-here k n r rs here) ∙ change-later f q (leased n r) rs (leased-holds n q r ∙ not) in
    record {
      ranges = ap (λ c. all_leased k n c.ranges) later ∙ lease-here k n r (change_at f q rs).ranges here ∙ sym (ap (λ c. c.ranges) leads);
      made = ap (λ c. c.made) later ∙ sym (ap (λ c. c.made) leads);
    }

change-first : (f : Range → List Range → Change) (parts : Range → List Range) (made : Range → List RangeDesc) (k q : List ℕ) (n : ℕ) (r : Range) (rs : List Range) → IsLocal f parts made → HoldsNoMore parts k q → holds_key k r ≡ false → holds_key q r ≡ true → BesideLease f k q n (r ∷ rs)
change-first f parts made k q n r rs local more not here =
    let first = change-here f q r rs here ∙ local r rs in
    let leads = ap (change_at f q) (lease-later k n r rs not) ∙ change-here f q r (all_leased k n rs) here ∙ local r (all_leased k n rs) in
    record {
      ranges = ap (λ c. all_leased k n c.ranges) first ∙ leased-behind k n (parts r) rs (more r here not) ∙ sym (ap (λ c. c.ranges) leads);
      made = ap (λ c. c.made) first ∙ sym (ap (λ c. c.made) leads);
    }

neither-first : (f : Range → List Range → Change) (k q : List ℕ) (n : ℕ) (r : Range) (rs : List Range) → holds_key k r ≡ false → holds_key q r ≡ false → BesideLease f k q n rs → BesideLease f k q n (r ∷ rs)
neither-first f k q n r rs h g rest =
    let later = change-later f q r rs g in
    let leads = ap (change_at f q) (lease-later k n r rs h) ∙ change-later f q r (all_leased k n rs) g in
    record {
      ranges = ap (λ c. all_leased k n c.ranges) later ∙ lease-later k n r (change_at f q rs).ranges h ∙ ap (λ qs. r ∷ qs) rest.ranges ∙ sym (ap (λ c. c.ranges) leads);
      made = ap (λ c. c.made) later ∙ rest.made ∙ sym (ap (λ c. c.made) leads);
    }

local-beside : (f : Range → List Range → Change) (parts : Range → List Range) (made : Range → List RangeDesc) (k q : List ℕ) (n : ℕ) → IsLocal f parts made → HoldsNoMore parts k q → (rs : List Range) → Each (λ r. (holds_key k r && holds_key q r) ≡ false) rs → BesideLease f k q n rs
local-beside f parts made k q n local more [] apart = record { ranges = refl; made = refl }
local-beside f parts made k q n local more (r ∷ rs) apart = by (holds_key k r) (holds_key q r) refl refl apart.0 (local-beside f parts made k q n local more rs apart.1)
  where
    by : (a b : Bool) → holds_key k r ≡ a → holds_key q r ≡ b → (a && b) ≡ false → BesideLease f k q n rs → BesideLease f k q n (r ∷ rs)
    by true true h g two rest = absurd (never (sym two))
    by true false h g two rest = lease-first f k q n r rs h g
    by false true h g two rest = change-first f parts made k q n r rs local more h g
    by false false h g two rest = neither-first f k q n r rs h g rest

-- ---- a split

abbrev split_parts : ℕ → List ℕ → Range → List Range
split_parts top q r = cond (can_split top q r) (left_part q r ∷ right_part (top + 1) q r ∷ []) (r ∷ [])

abbrev split_made : ℕ → List ℕ → Range → List RangeDesc
split_made top q r = cond (can_split top q r) ((left_part q r).info.desc ∷ (right_part (top + 1) q r).info.desc ∷ []) []

split-local : (top : ℕ) (q : List ℕ) → IsLocal (split_in top q) (split_parts top q) (split_made top q)
split-local top q r rs =
    elim (can_split top q r) as (λ b.
    cond b (record { ranges = left_part q r ∷ right_part (top + 1) q r ∷ rs; made = (left_part q r).info.desc ∷ (right_part (top + 1) q r).info.desc ∷ [] }) (unchanged (r ∷ rs))
    ≡ record { ranges = cond b (left_part q r ∷ right_part (top + 1) q r ∷ []) (r ∷ []) ++ rs; made = cond b ((left_part q r).info.desc ∷ (right_part (top + 1) q r).info.desc ∷ []) [] }) [
      | true ↦ refl
      | false ↦ refl
    ]

low : (a b c : Bool) → (b ≡ true → c ≡ true) → (a && c) ≡ false → (a && b) ≡ false
low true true c f h = not_both c (f refl) h
low true false c f h = refl
low false b c f h = refl

high : (a b c : Bool) → (a ≡ true → b ≡ true) → (b && c) ≡ false → (a && c) ≡ false
high true b c f h = ap (λ t. t && c) (sym (f refl)) ∙ h
high false b c f h = refl

split-holds : (top : ℕ) (k q : List ℕ) → HoldsNoMore (split_parts top q) k q
split-holds top k q r here not =
    elim (can_split top q r) as (λ b. Each (λ p. holds_key k p ≡ false) (cond b (left_part q r ∷ right_part (top + 1) q r ∷ []) (r ∷ []))) [
      | true ↦ (
        low (key_le (start_of r) k) (key_lt k q) (key_lt k (end_of r)) (λ h. key_lt-trans k q (end_of r) h (and_second (key_le (start_of r) q) _ here)) not,
        (high (key_le q k) (key_le (start_of r) k) (key_lt k (end_of r)) (λ h. le_trans (start_of r) q k (and_first (key_le (start_of r) q) _ here) h) not, tt),
      )
      | false ↦ (not, tt)
    ]

pub lease_split : (k q : List ℕ) (n : ℕ) (w : World) → InDifferentRanges k q w → lease_to k n (split_at q w) ≡ split_at q (lease_to k n w)
lease_split k q n w apart =
    let top : ℕ = greatest_id w.descs in
    let beside = local-beside (split_in top q) (split_parts top q) (split_made top q) k q n (split-local top q) (split-holds top k q) w.ranges apart in
    let qs : List Range = all_leased k n w.ranges in
    let same = sym (lease_descs k n w) in
    let ranges = beside.ranges ∙ ap (λ ds. (change_at (split_in (greatest_id ds) q) q qs).ranges) same in
    let descs = lease_descs k n (split_at q w) ∙ ap (λ ms. w.descs ++ ms) beside.made ∙ ap (λ ds. ds ++ (change_at (split_in (greatest_id ds) q) q qs).made) same in
    λ i. record w { ranges = ranges i; descs = descs i }

-- ---- a move

abbrev move_parts : List ℕ → Range → List Range
move_parts ns r = cond (can_move ns r) (with_nodes ns r) r ∷ []

abbrev move_made : List ℕ → Range → List RangeDesc
move_made ns r = cond (can_move ns r) ((with_nodes ns r).info.desc ∷ []) []

move-local : (ns : List ℕ) → IsLocal (move_in ns) (move_parts ns) (move_made ns)
move-local ns r rs =
    elim (can_move ns r) as (λ b. cond b (record { ranges = with_nodes ns r ∷ rs; made = (with_nodes ns r).info.desc ∷ [] }) (unchanged (r ∷ rs)) ≡ record { ranges = cond b (with_nodes ns r) r ∷ rs; made = cond b ((with_nodes ns r).info.desc ∷ []) [] }) [
      | true ↦ refl
      | false ↦ refl
    ]

move-holds : (ns k q : List ℕ) → HoldsNoMore (move_parts ns) k q
move-holds ns k q r here not = (elim (can_move ns r) as (λ b. holds_key k (cond b (with_nodes ns r) r) ≡ false) [ true ↦ not | false ↦ not ], tt)

pub lease_move : (k q ns : List ℕ) (n : ℕ) (w : World) → InDifferentRanges k q w → lease_to k n (move_to q ns w) ≡ move_to q ns (lease_to k n w)
lease_move k q ns n w apart =
    let beside = local-beside (move_in ns) (move_parts ns) (move_made ns) k q n (move-local ns) (move-holds ns k q) w.ranges apart in
    let descs = lease_descs k n (move_to q ns w) ∙ ap (λ ms. w.descs ++ ms) beside.made ∙ ap (λ ds. ds ++ (change_at (move_in ns) q (all_leased k n w.ranges)).made) (sym (lease_descs k n w)) in
    λ i. record w { ranges = beside.ranges i; descs = descs i }
