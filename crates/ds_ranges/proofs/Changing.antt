-- The range at a place, changed.
use Rattle.std.proofs.Common.{◌≡◌, ℕ, zero, suc, true, false, cond, List, [], ◌∷◌, Some, refl, sym, ap, ◌∙◌, subst, drop}
use Rattle.std.specs.List.{slice_get, insert, remove}
use Rattle.std.proofs.Math.ListN.{set}
use Rattle.ds_base.proofs.SmallFacts.{some_same}
use Rattle.ds_desc.specs.declared.desc.RangeDesc.{RangeDesc}
use Rattle.ds_rule.specs.Pieces.{Each}
use Rattle.ds_rule.specs.Shifts.{Change, behind, can_join, change_at, joined, merge_in, unchanged}
use Rattle.ds_rule.specs.World.{Range, holds_key, replaced}
use Rattle.ds_ranges.specs.Places.{IsFirst}

-- ---- what became of the ranges

-- one in place of the one that holds the key
pub set-changed : (f : Range → List Range → Change) (k : List ℕ) (rs : List Range) (i : ℕ) (r y : Range) → IsFirst (holds_key k) rs i → slice_get rs i ≡ Some r → ((after : List Range) → (f r after).ranges ≡ y ∷ after) → set rs i y ≡ (change_at f k rs).ranges
set-changed f k [] i r y first at is = absurd first
set-changed f k (q ∷ rs) zero r y first at is =
    sym (ap (λ b. (cond b (f q rs) (behind q (change_at f k rs))).ranges) first ∙ ap (λ z. (f z rs).ranges) (some_same q r at) ∙ is rs)
set-changed f k (q ∷ rs) (suc i) r y first at is =
    ap (λ zs. q ∷ zs) (set-changed f k rs i r y first.1 at is) ∙ sym (ap (λ b. (cond b (f q rs) (behind q (change_at f k rs))).ranges) first.0)

-- two in its place
pub insert-changed : (f : Range → List Range → Change) (k : List ℕ) (rs : List Range) (i : ℕ) (r y z : Range) → IsFirst (holds_key k) rs i → slice_get rs i ≡ Some r → ((after : List Range) → (f r after).ranges ≡ y ∷ z ∷ after) → insert (set rs i y) (suc i) z ≡ (change_at f k rs).ranges
insert-changed f k [] i r y z first at is = absurd first
insert-changed f k (q ∷ rs) zero r y z first at is =
    sym (ap (λ b. (cond b (f q rs) (behind q (change_at f k rs))).ranges) first ∙ ap (λ z. (f z rs).ranges) (some_same q r at) ∙ is rs)
insert-changed f k (q ∷ rs) (suc i) r y z first at is =
    ap (λ zs. q ∷ zs) (insert-changed f k rs i r y z first.1 at is) ∙ sym (ap (λ b. (cond b (f q rs) (behind q (change_at f k rs))).ranges) first.0)

-- both in the place of it and its neighbour
pub merge-changed : (k : List ℕ) (rs : List Range) (i : ℕ) (r s : Range) → IsFirst (holds_key k) rs i → slice_get rs i ≡ Some r → slice_get rs (suc i) ≡ Some s → can_join r s ≡ true → set (remove rs (suc i)) i (joined r s) ≡ (change_at merge_in k rs).ranges
merge-changed k [] i r s first at next can = absurd first
merge-changed k (q ∷ []) zero r s first at next can = cc
merge-changed k (q ∷ o ∷ rs) zero r s first at next can =
    sym (
    ap (λ b. (cond b (merge_in q (o ∷ rs)) (behind q (change_at merge_in k (o ∷ rs)))).ranges) first
    ∙ ap (λ z. (merge_in z (o ∷ rs)).ranges) (some_same q r at)
    ∙ ap (λ z. (merge_in r (z ∷ rs)).ranges) (some_same o s next)
    ∙ ap (λ b. (cond b (record { ranges = joined r s ∷ rs; made = (joined r s).info.desc ∷ [] }) (unchanged (r ∷ s ∷ rs))).ranges) can
    )
merge-changed k (q ∷ rs) (suc i) r s first at next can =
    ap (λ zs. q ∷ zs) (merge-changed k rs i r s first.1 at next can) ∙ sym (ap (λ b. (cond b (merge_in q rs) (behind q (change_at merge_in k rs))).ranges) first.0)

-- with other contents
pub set-replaced : (k : List ℕ) (f : Range → Range) (rs : List Range) (i : ℕ) (r : Range) → IsFirst (holds_key k) rs i → slice_get rs i ≡ Some r → set rs i (f r) ≡ replaced (holds_key k) f rs
set-replaced k f [] i r first at = absurd first
set-replaced k f (q ∷ rs) zero r first at =
    ap (λ z. f z ∷ rs) (sym (some_same q r at)) ∙ ap (λ b. cond b (f q ∷ rs) (q ∷ replaced (holds_key k) f rs)) (sym first)
set-replaced k f (q ∷ rs) (suc i) r first at =
    ap (λ zs. q ∷ zs) (set-replaced k f rs i r first.1 at) ∙ ap (λ b. cond b (f q ∷ rs) (q ∷ replaced (holds_key k) f rs)) (sym first.0)

-- ---- the descriptors that were made

pub made-at : (f : Range → List Range → Change) (k : List ℕ) (rs : List Range) (i : ℕ) (r : Range) (made : List RangeDesc) → IsFirst (holds_key k) rs i → slice_get rs i ≡ Some r → ((after : List Range) → after ≡ drop (suc i) rs → (f r after).made ≡ made) → (change_at f k rs).made ≡ made
made-at f k [] i r made first at is = absurd first
made-at f k (q ∷ rs) zero r made first at is =
    ap (λ b. (cond b (f q rs) (behind q (change_at f k rs))).made) first ∙ ap (λ z. (f z rs).made) (some_same q r at) ∙ is rs refl
made-at f k (q ∷ rs) (suc i) r made first at is =
    ap (λ b. (cond b (f q rs) (behind q (change_at f k rs))).made) first.0 ∙ made-at f k rs i r made first.1 at is

-- ---- where nothing changes

-- no range holds the key
pub none-changed : (f : Range → List Range → Change) (k : List ℕ) (rs : List Range) → Each (λ r. holds_key k r ≡ false) rs → change_at f k rs ≡ unchanged rs
none-changed f k [] none = refl
none-changed f k (r ∷ rs) none =
    ap (λ b. cond b (f r rs) (behind r (change_at f k rs))) none.0 ∙ ap (behind r) (none-changed f k rs none.1)

pub none-replaced : (k : List ℕ) (f : Range → Range) (rs : List Range) → Each (λ r. holds_key k r ≡ false) rs → replaced (holds_key k) f rs ≡ rs
none-replaced k f [] none = refl
none-replaced k f (r ∷ rs) none =
    ap (λ b. cond b (f r ∷ rs) (r ∷ replaced (holds_key k) f rs)) none.0 ∙ ap (λ zs. r ∷ zs) (none-replaced k f rs none.1)

-- the one that holds it can't be changed so
pub kept-changed : (f : Range → List Range → Change) (k : List ℕ) (rs : List Range) (i : ℕ) (r : Range) → IsFirst (holds_key k) rs i → slice_get rs i ≡ Some r → f r (drop (suc i) rs) ≡ unchanged (r ∷ drop (suc i) rs) → change_at f k rs ≡ unchanged rs
kept-changed f k [] i r first at is = absurd first
kept-changed f k (q ∷ rs) zero r first at is =
    let same : q ≡ r = some_same q r at in
    ap (λ b. cond b (f q rs) (behind q (change_at f k rs))) first
    ∙ subst (λ z. f z rs ≡ unchanged (z ∷ rs)) (sym same) is
kept-changed f k (q ∷ rs) (suc i) r first at is =
    ap (λ b. cond b (f q rs) (behind q (change_at f k rs))) first.0 ∙ ap (behind q) (kept-changed f k rs i r first.1 at is)
