-- What the ranges hold after one of them was given new contents.
use Rattle.std.proofs.Common.{◌≡◌, ℕ, Bool, true, false, cond, List, [], ◌∷◌, ◌++◌, Some, None, refl, sym, ap, ◌∙◌, subst}
use Rattle.std.specs.List.{find}
use Rattle.ds_base.specs.Order.{key_lt, key_le, holds}
use Rattle.ds_base.specs.Ordered.{key_eq, Ascends, at_key, between}
use Rattle.ds_base.proofs.SmallFacts.{and_first, and_second}
use Rattle.ds_base.proofs.OrderedFacts.{eq_same, le_trans, at_key-between}
use Rattle.ds_cell.specs.Ask.{Cells, key_of, content_of, content_at}
use Rattle.ds_rule.specs.World.{Range, start_of, end_of, contents, Inside, Fits, Tiles, replaced}
use Rattle.ds_rule.proofs.Puts.{content-left, content-right}
use Rattle.ds_rule.proofs.Routes.{inside-below, contents-from, over-of-from, le_itself, found-from, range-between}

pub not-both : (t : Bool) → t ≡ true → t ≡ false → ⊥
not-both t p q = cc

-- what lies in a span shows nothing outside
content-skip : (s e k : List ℕ) (xs ys : Cells) → Inside s e xs → holds s e k ≡ false → content_at k (xs ++ ys) ≡ content_at k ys
content-skip s e k [] ys all far = refl
content-skip s e k (x ∷ xs) ys all far =
    elim (key_eq x.0 k) as (λ t. key_eq x.0 k ≡ t → content_of (cond t (Some x) (at_key key_of k (xs ++ ys))) ≡ content_at k ys) [
      | true ↦ λ h. absurd (not-both (holds s e k) (subst (λ z. holds s e z ≡ true) (eq_same x.0 k h) all.0) far)
      | false ↦ λ h. content-skip s e k xs ys all.1 far
    ] refl

content-after : (k : List ℕ) (xs ys zs : Cells) → content_at k ys ≡ content_at k zs → content_at k (xs ++ ys) ≡ content_at k (xs ++ zs)
content-after k [] ys zs h = h
content-after k (x ∷ xs) ys zs h =
    elim (key_eq x.0 k) as (λ t. content_of (cond t (Some x) (at_key key_of k (xs ++ ys))) ≡ content_of (cond t (Some x) (at_key key_of k (xs ++ zs)))) [
      | true ↦ refl
      | false ↦ content-after k xs ys zs h
    ]

abbrev given : (Range → Bool) → Cells → List Range → List Range
given p cells rs = replaced p (λ r. record r { cells = cells }) rs

-- in the range's span stands what it was given
pub given-in : (p : Range → Bool) (s : List ℕ) (rs : List Range) (q : Range) (cells : Cells) (k : List ℕ) → Tiles s rs → find p rs ≡ Some q → holds (start_of q) (end_of q) k ≡ true → content_at k (contents (replaced p (λ r. record r { cells = cells }) rs)) ≡ content_at k cells
given-in p s [] q cells k t found here = cc
given-in p s (r ∷ rs) q cells k t found here =
    elim (p r) as (λ b. cond b (Some r) (find p rs) ≡ Some q → content_at k (contents (cond b (record r { cells = cells } ∷ rs) (r ∷ given p cells rs))) ≡ content_at k cells) [
      | true ↦ λ g.
          let same : q ≡ r = cc in
          let low : key_lt k (end_of r) ≡ true = subst (λ z. key_lt k (end_of z) ≡ true) same (and_second (key_le (start_of q) k) _ here) in
          content-left k cells (contents rs) (over-of-from k (end_of r) (contents rs) low (contents-from (end_of r) (end_of r) rs (le_itself (end_of r)) t.1))
      | false ↦ λ g.
          let after : key_le (end_of r) k ≡ true = le_trans (end_of r) (start_of q) k (found-from p (end_of r) rs q t.1 g) (and_first _ _ here) in
          content-right k r.cells (contents (given p cells rs)) (inside-below s (end_of r) k r.cells after t.0.inside)
          ∙ given-in p (end_of r) rs q cells k t.1 g here
    ] found

-- elsewhere stands what stood there
pub given-out : (p : Range → Bool) (s : List ℕ) (rs : List Range) (q : Range) (cells : Cells) (k : List ℕ) → Tiles s rs → find p rs ≡ Some q → Inside (start_of q) (end_of q) cells → holds (start_of q) (end_of q) k ≡ false → content_at k (contents (replaced p (λ r. record r { cells = cells }) rs)) ≡ content_at k (contents rs)
given-out p s [] q cells k t found lies far = refl
given-out p s (r ∷ rs) q cells k t found lies far =
    elim (p r) as (λ b. cond b (Some r) (find p rs) ≡ Some q → content_at k (contents (cond b (record r { cells = cells } ∷ rs) (r ∷ given p cells rs))) ≡ content_at k (r.cells ++ contents rs)) [
      | true ↦ λ g.
          let same : q ≡ r = cc in
          let far_of : holds (start_of r) (end_of r) k ≡ false = subst (λ z. holds (start_of z) (end_of z) k ≡ false) same far in
          content-skip (start_of r) (end_of r) k cells (contents rs) (subst (λ z. Inside (start_of z) (end_of z) cells) same lies) far_of
          ∙ sym (content-skip (start_of r) (end_of r) k r.cells (contents rs) (subst (λ z. Inside z (end_of r) r.cells) (sym t.0.begins) t.0.inside) far_of)
      | false ↦ λ g. content-after k r.cells (contents (given p cells rs)) (contents rs) (given-out p (end_of r) rs q cells k t.1 g lies far)
    ] found

-- the ranges still tile
pub given-tiles : (p : Range → Bool) (s : List ℕ) (rs : List Range) (q : Range) (cells : Cells) → Tiles s rs → find p rs ≡ Some q → Ascends key_of cells → Inside (start_of q) (end_of q) cells → Tiles s (replaced p (λ r. record r { cells = cells }) rs)
given-tiles p s [] q cells t found asc lies = t
given-tiles p s (r ∷ rs) q cells t found asc lies =
    elim (p r) as (λ b. cond b (Some r) (find p rs) ≡ Some q → Tiles s (cond b (record r { cells = cells } ∷ rs) (r ∷ given p cells rs))) [
      | true ↦ λ g.
          let same : q ≡ r = cc in (
            record {
              begins = t.0.begins;
              some = t.0.some;
              rising = asc;
              inside = subst (λ z. Inside z (end_of r) cells) t.0.begins (subst (λ z. Inside (start_of z) (end_of z) cells) same lies);
            },
            t.1,
          )
      | false ↦ λ g. (t.0, given-tiles p (end_of r) rs q cells t.1 g asc lies)
    ] found

-- the range that was found fits where it begins
pub found-fits : (p : Range → Bool) (s : List ℕ) (rs : List Range) (q : Range) → Tiles s rs → find p rs ≡ Some q → Fits (start_of q) q
found-fits p s [] q t found = cc
found-fits p s (r ∷ rs) q t found =
    elim (p r) as (λ b. cond b (Some r) (find p rs) ≡ Some q → Fits (start_of q) q) [
      | true ↦ λ g. let same : r ≡ q = cc in subst (λ z. Fits (start_of z) z) same (subst (λ z. Fits z r) (sym t.0.begins) t.0)
      | false ↦ λ g. found-fits p (end_of r) rs q t.1 g
    ] found

content-between : (s e k : List ℕ) (cells : Cells) → holds s e k ≡ true → content_at k (between key_of s e cells) ≡ content_at k cells
content-between s e k cells here = ap content_of (at_key-between key_of s e k cells ∙ ap (λ t. cond t (at_key key_of k cells) None) here)

-- in its span a range holds what all ranges hold
pub range-at : (p : Range → Bool) (s : List ℕ) (rs : List Range) (q : Range) (k : List ℕ) → Tiles s rs → find p rs ≡ Some q → holds (start_of q) (end_of q) k ≡ true → content_at k q.cells ≡ content_at k (contents rs)
range-at p s rs q k t found here =
    sym (content-between (start_of q) (end_of q) k q.cells here)
    ∙ ap (content_at k) (range-between p s rs q (start_of q) (end_of q) t found (le_itself (start_of q)) (le_itself (end_of q)))
    ∙ content-between (start_of q) (end_of q) k (contents rs) here
