-- The parts of a range that is split, and of two that are merged.
use Rattle.std.proofs.Common.{◌≡◌, ℕ, zero, suc, ◌<◌, true, false, ◌&&◌, List, [], ◌∷◌, ◌++◌, Some, sym, ap, ◌∙◌, subst, length, take}
use Rattle.std.specs.List.{slice_get}
use Rattle.std.proofs.Math.ListN.{set}
use Rattle.std.proofs.lemmas.Bool.{and_right}
use Rattle.std.proofs.lemmas.List.{set-append_left, take_at}
use Rattle.ds_base.specs.Order.{key_lt}
use Rattle.ds_base.proofs.KeyOrder.{key_lt-irrefl, key_lt-trans}
use Rattle.ds_base.proofs.OrderedFacts.{le_of_lt}
use Rattle.ds_base.proofs.SmallFacts.{and_first, and_second, lt_of, some_same}
use Rattle.ds_desc.specs.Descs.{overlap}
use Rattle.ds_desc.specs.declared.desc.RangeDesc.{RangeDesc}
use Rattle.ds_lineage.specs.Last.{Follows, IsNewestAt}
use Rattle.ds_lineage.proofs.Spans.{follows-newest}
use Rattle.ds_rule.specs.Shifts.{can_split, has_next, left_part, right_part}
use Rattle.ds_rule.specs.World.{Range, Fits, Tiles, start_of, end_of, holds_key}
use Rattle.ds_rule.proofs.Routes.{le_itself}
use Rattle.ds_ranges.specs.Places.{IsFirst}
use Rattle.ds_ranges.proofs.Events.{first-passes}

pub part-left : (ds : List RangeDesc) (p : ℕ) (k : List ℕ) (r : Range) → IsNewestAt ds r.info.desc p → key_lt k (end_of r) ≡ true → Follows ds (left_part k r).info.desc.span p
part-left ds p k r newest below = follows-newest ds (left_part k r).info.desc.span r.info.desc p (le_itself (start_of r)) (le_of_lt k (end_of r) below) newest

pub part-right : (ds : List RangeDesc) (p : ℕ) (k : List ℕ) (id : ℕ) (r : Range) → IsNewestAt ds r.info.desc p → key_lt (start_of r) k ≡ true → Follows ds (right_part id k r).info.desc.span p
part-right ds p k id r newest above = follows-newest ds (right_part id k r).info.desc.span r.info.desc p (le_of_lt (start_of r) k above) (le_itself (end_of r)) newest

pub part-apart : (k : List ℕ) (id : ℕ) (r : Range) → overlap (left_part k r).info.desc.span (right_part id k r).info.desc.span ≡ false
part-apart k id r = and_right (key_lt (start_of r) (end_of r)) (key_lt k k) (key_lt-irrefl k)

-- where it can be split
pub split-above : (top : ℕ) (k : List ℕ) (r : Range) → can_split top k r ≡ true → key_lt (start_of r) k ≡ true
split-above top k r can = and_first (key_lt (start_of r) k) _ (and_first _ _ can)

pub split-next : (top : ℕ) (k : List ℕ) (r : Range) → can_split top k r ≡ true → r.info.desc.generation < 4294967295
split-next top k r can = lt_of _ _ (and_second (key_lt (start_of r) k) _ (and_first _ _ can))

pub split-top : (top : ℕ) (k : List ℕ) (r : Range) → can_split top k r ≡ true → top < 4294967295
split-top top k r can = lt_of _ _ (and_second (key_lt (start_of r) k && has_next r.info.desc.generation) _ can)

pub split-below : (k : List ℕ) (rs : List Range) (i : ℕ) (r : Range) → IsFirst (holds_key k) rs i → slice_get rs i ≡ Some r → key_lt k (end_of r) ≡ true
split-below k rs i r first at = and_second _ _ (first-passes k rs i r first at)

-- what was added last, taken back
pub taken-back : (ds lineage made : List RangeDesc) (n : ℕ) → lineage ≡ ds ++ made → n ≡ length ds → take n lineage ≡ ds
taken-back ds lineage made n grown long = ap (take n) grown ∙ take_at ds made n (sym long)

-- one place changed and one added
pub two-noted : (places more after : List ℕ) (id n m : ℕ) → id < length places → more ≡ places ++ m ∷ [] → after ≡ set more id n → after ≡ set places id n ++ m ∷ []
two-noted places more after id n m low grown is = is ∙ ap (λ zs. set zs id n) grown ∙ set-append_left places (m ∷ []) id n low

-- ---- two neighbours

pub fits-at : (s : List ℕ) (rs : List Range) (i : ℕ) (r : Range) → Tiles s rs → slice_get rs i ≡ Some r → Fits (start_of r) r
fits-at s [] i r t at = cc
fits-at s (q ∷ rs) zero r t at =
    let same : q ≡ r = some_same q r at in
    subst (λ z. Fits (start_of z) z) same (subst (λ z. Fits z q) (sym t.0.begins) t.0)
fits-at s (q ∷ rs) (suc i) r t at = fits-at (end_of q) rs i r t.1 at

pub next-fits : (s : List ℕ) (rs : List Range) (i : ℕ) (r q : Range) → Tiles s rs → slice_get rs i ≡ Some r → slice_get rs (suc i) ≡ Some q → Fits (end_of r) q
next-fits s [] i r q t at next = cc
next-fits s (p ∷ []) zero r q t at next = cc
next-fits s (p ∷ o ∷ rs) zero r q t at next =
    subst (λ z. Fits (end_of z) q) (some_same p r at) (subst (λ z. Fits (end_of p) z) (some_same o q next) t.1.0)
next-fits s (p ∷ rs) (suc i) r q t at next = next-fits (end_of p) rs i r q t.1 at next

pub neighbours-meet : (s : List ℕ) (rs : List Range) (i : ℕ) (r q : Range) → Tiles s rs → slice_get rs i ≡ Some r → slice_get rs (suc i) ≡ Some q → end_of r ≡ start_of q
neighbours-meet s rs i r q t at next = sym (next-fits s rs i r q t at next).begins

pub neighbours-span : (s : List ℕ) (rs : List Range) (i : ℕ) (r q : Range) → Tiles s rs → slice_get rs i ≡ Some r → slice_get rs (suc i) ≡ Some q → key_lt (start_of r) (end_of q) ≡ true
neighbours-span s rs i r q t at next = key_lt-trans (start_of r) (end_of r) (end_of q) (fits-at s rs i r t at).some (next-fits s rs i r q t at next).some
