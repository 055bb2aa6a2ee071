-- What one range holds, read off all contents.
use Rattle.std.proofs.Common.{◌≡◌, ℕ, Bool, true, false, cond, List, [], ◌∷◌, ◌++◌, Some, refl, sym, ap, ◌∙◌, subst}
use Rattle.std.specs.List.{find}
pub use Rattle.ds_base.proofs.KeyFacts.{le_itself, least}
use Rattle.ds_base.specs.Order.{key_lt, key_le}
use Rattle.ds_base.specs.Ordered.{AllOver, AllFrom, AllBelow, Ascends, between}
use Rattle.ds_base.proofs.SmallFacts.{and_first, and_second, append_nil}
use Rattle.ds_base.proofs.OrderedFacts.{le_of_lt, le_trans, lt_le_trans, over-append, cut-append, none-from, none-below}
use Rattle.ds_cell.specs.Ask.{Cell, key_of}
use Rattle.ds_rule.specs.World.{Range, start_of, end_of, contents, Inside, Tiles}

-- what the cells of a range are, against a key

pub inside-below : (s e m : List ℕ) (cells : List Cell) → key_le e m ≡ true → Inside s e cells → AllBelow key_of m cells
inside-below s e m [] h all = tt
inside-below s e m (p ∷ ps) h all = (lt_le_trans p.0 e m (and_second (key_le s p.0) _ all.0) h, inside-below s e m ps h all.1)

pub inside-from : (s e m : List ℕ) (cells : List Cell) → key_le m s ≡ true → Inside s e cells → AllFrom key_of m cells
inside-from s e m [] h all = tt
inside-from s e m (p ∷ ps) h all = (le_trans m s p.0 h (and_first _ _ all.0), inside-from s e m ps h all.1)

from-append : (m : List ℕ) (xs ys : List Cell) → AllFrom key_of m xs → AllFrom key_of m ys → AllFrom key_of m (xs ++ ys)
from-append m [] ys a b = b
from-append m (x ∷ xs) ys a b = (a.0, from-append m xs ys a.1 b)

-- all contents of ranges that tile from s on are from m on, where m is not above s
pub contents-from : (m s : List ℕ) (rs : List Range) → key_le m s ≡ true → Tiles s rs → AllFrom key_of m (contents rs)
contents-from m s [] h t = tt
contents-from m s (r ∷ rs) h t =
    from-append m r.cells (contents rs) (inside-from s (end_of r) m r.cells h t.0.inside)
    (contents-from m (end_of r) rs (le_trans m s (end_of r) h (le_of_lt s (end_of r) t.0.some)) t.1)

pub over-of-from : (k m : List ℕ) (cells : List Cell) → key_lt k m ≡ true → AllFrom key_of m cells → AllOver key_of k cells
over-of-from k m [] h all = tt
over-of-from k m (p ∷ ps) h all = (lt_le_trans k m p.0 h all.0, over-of-from k m ps h all.1)

pub ascends-append : (m : List ℕ) (xs ys : List Cell) → Ascends key_of xs → AllBelow key_of m xs → Ascends key_of ys → AllFrom key_of m ys → Ascends key_of (xs ++ ys)
ascends-append m [] ys a b c d = c
ascends-append m (x ∷ xs) ys a b c d =
    (over-append key_of x.0 xs ys a.0 (over-of-from x.0 m ys b.0 d), ascends-append m xs ys a.1 b.1 c d)

-- all contents rise
pub contents-ascend : (s : List ℕ) (rs : List Range) → Tiles s rs → Ascends key_of (contents rs)
contents-ascend s [] t = tt
contents-ascend s (r ∷ rs) t =
    ascends-append (end_of r) r.cells (contents rs) t.0.rising (inside-below s (end_of r) (end_of r) r.cells (le_itself (end_of r)) t.0.inside)
    (contents-ascend (end_of r) rs t.1) (contents-from (end_of r) (end_of r) rs (le_itself (end_of r)) t.1)

find_more : (p : Range → Bool) (r : Range) (rs : List Range) (q : Range) → p r ≡ false → find p (r ∷ rs) ≡ Some q → find p rs ≡ Some q
find_more p r rs q miss h = sym (ap (λ t. cond t (Some r) (find p rs)) miss) ∙ h

pub found-from : (p : Range → Bool) (s : List ℕ) (rs : List Range) (q : Range) → Tiles s rs → find p rs ≡ Some q → key_le s (start_of q) ≡ true
found-from p s [] q t h = cc
found-from p s (r ∷ rs) q t h =
    elim (p r) as (λ b. p r ≡ b → cond b (Some r) (find p rs) ≡ Some q → key_le s (start_of q) ≡ true) [
      | true ↦ λ e g. let same : r ≡ q = cc in subst (λ z. key_le s (start_of z) ≡ true) same (ap (key_le s) t.0.begins ∙ le_itself s)
      | false ↦ λ e g. le_trans s (end_of r) (start_of q) (le_of_lt s (end_of r) t.0.some) (found-from p (end_of r) rs q t.1 g)
    ] refl h

-- a span within one range shows the same of the range as of all contents
pub range-between : (p : Range → Bool) (a : List ℕ) (rs : List Range) (q : Range) (s e : List ℕ) → Tiles a rs → find p rs ≡ Some q → key_le (start_of q) s ≡ true → key_le e (end_of q) ≡ true → between key_of s e q.cells ≡ between key_of s e (contents rs)
range-between p a [] q s e t h low high = cc
range-between p a (r ∷ rs) q s e t h low high =
    elim (p r) as (λ b. cond b (Some r) (find p rs) ≡ Some q → between key_of s e q.cells ≡ between key_of s e (r.cells ++ contents rs)) [
      | true ↦ λ g.
          let same : q ≡ r = cc in
          let rest : between key_of s e (contents rs) ≡ [] =
          none-from key_of s e (contents rs) (contents-from e (end_of r) rs (subst (λ z. key_le e (end_of z) ≡ true) same high) t.1) in
          ap (λ z. between key_of s e z.cells) same ∙ sym (append_nil _) ∙ ap (λ zs. between key_of s e r.cells ++ zs) (sym rest) ∙ sym (cut-append key_of s e r.cells (contents rs))
      | false ↦ λ g.
          let after : key_le (end_of r) (start_of q) ≡ true = found-from p (end_of r) rs q t.1 g in
          let none : between key_of s e r.cells ≡ [] =
          none-below key_of s e r.cells (inside-below a (end_of r) s r.cells (le_trans (end_of r) (start_of q) s after low) t.0.inside) in
          range-between p (end_of r) rs q s e t.1 g low high ∙ ap (λ zs. zs ++ between key_of s e (contents rs)) (sym none) ∙ sym (cut-append key_of s e r.cells (contents rs))
    ] h
