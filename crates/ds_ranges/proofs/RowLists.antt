-- The rows of a lookup are a part of the ranges.
use Rattle.std.proofs.Common.{◌≡◌, ℕ, zero, suc, ◌+◌, ◌-◌, ◌<◌, ◌≤◌, Bool, true, false, cond, List, [], ◌∷◌, ◌++◌, Some, refl, sym, ap, ◌∙◌, subst, length, get_or, map, take, drop, reverse, arith}
use Rattle.std.specs.List.{slice_get}
use Rattle.std.proofs.lemmas.Bool.{and_left}
use Rattle.std.proofs.lemmas.List.{drop_all, take_all, length-reverse, length-take, reverse-append, take_more, take_rest, get_or-reverse, map_push}
use Rattle.std.proofs.lemmas.Option.{get_or_from_slice_get, slice_get_read}
use Rattle.ds_base.specs.Order.{key_lt, key_le, bound}
use Rattle.ds_base.specs.declared.value.Dir.{Dir}
use Rattle.ds_base.specs.declared.value.Dir.TheVariants.{Forward, Reverse}
use Rattle.ds_base.proofs.OrderedFacts.{le_of_not_lt}
use Rattle.ds_base.proofs.SmallFacts.{and_both, append_nil}
use Rattle.ds_desc.specs.Contains.{contains}
use Rattle.ds_rule.specs.Pieces.{Each}
use Rattle.ds_rule.specs.World.{Range, Tiles, start_of, end_of, from_first, holds_key, in_order}
use Rattle.ds_rule.proofs.Eachs.{each-append}
use Rattle.ds_rule.proofs.Routes.{least}
use Rattle.ds_ranges.specs.Places.{IsPoint}
use Rattle.ds_ranges.proofs.Finding.{lt_of_not_le, out-low}

-- ---- forward

pub forward-rows : (k s : List ℕ) (rs : List Range) (i : ℕ) → Tiles s rs → key_le s k ≡ true → IsPoint (λ r. key_le (end_of r) k) rs i → drop i rs ≡ from_first (λ r. contains Forward k r.info.desc.span) rs
forward-rows k s [] i t from p = drop_all i [] (omega arith)
forward-rows k s (r ∷ rs) zero t from p =
    let low : key_le (start_of r) k ≡ true = subst (λ z. key_le z k ≡ true) (sym t.0.begins) from in
    let held : holds_key k r ≡ true = and_both _ _ low (lt_of_not_le (end_of r) k (p.1 0 r (omega arith) (omega arith))) in
    ap (λ b. cond b (r ∷ rs) (from_first (λ r. contains Forward k r.info.desc.span) rs)) (sym held)
forward-rows k s (r ∷ rs) (suc i) t from p =
    let out : key_le (end_of r) k ≡ true = p.0 0 r (omega arith) (omega arith) in
    forward-rows k (end_of r) rs i t.1 out (λ n d a b. p.0 (suc n) d (omega arith) (omega (arith, b)), λ n d a b. p.1 (suc n) d (omega (arith, a)) (omega (arith, b)))
    ∙ ap (λ b. cond b (r ∷ rs) (from_first (λ r. contains Forward k r.info.desc.span) rs)) (sym (out-low k r out))

-- ---- in reverse

module _ {X : Type 0} (p : X → Bool) where
  each-reverse : (xs : List X) → Each (λ x. p x ≡ false) xs → Each (λ x. p x ≡ false) (reverse xs)
  each-reverse [] h = tt
  each-reverse (x ∷ xs) h =
      subst (Each (λ x. p x ≡ false)) (sym (reverse-append (x ∷ []) xs)) (each-append (λ x. p x ≡ false) (reverse xs) (x ∷ []) (each-reverse xs h.1) (h.0, tt))

  past-none : (xs ys : List X) → Each (λ x. p x ≡ false) xs → from_first p (xs ++ ys) ≡ from_first p ys
  past-none [] ys h = refl
  past-none (x ∷ xs) ys h = ap (λ b. cond b (x ∷ (xs ++ ys)) (from_first p (xs ++ ys))) h.0 ∙ past-none xs ys h.1

  past-some : (xs ys : List X) → 0 < length (from_first p xs) → from_first p (xs ++ ys) ≡ from_first p xs ++ ys
  past-some [] ys some = absurd (omega (arith, some))
  past-some (x ∷ xs) ys some =
      elim (p x) as (λ b. 0 < length (cond b (x ∷ xs) (from_first p xs)) → cond b (x ∷ (xs ++ ys)) (from_first p (xs ++ ys)) ≡ cond b (x ∷ xs) (from_first p xs) ++ ys) [
        | true ↦ λ h. refl
        | false ↦ λ h. past-some xs ys h
      ] some

abbrev back : List ℕ → Range → Bool
back k r = contains Reverse k r.info.desc.span

out-above : (k : List ℕ) (r : Range) → key_lt (start_of r) k ≡ false → back k r ≡ false
out-above k r h = and_left (key_lt (start_of r) k) (key_le k (end_of r)) h

all-above : (k : List ℕ) (rs : List Range) → ((n : ℕ) (d : Range) → n < length rs → key_lt (start_of (get_or rs n d)) k ≡ false) → Each (λ r. back k r ≡ false) rs
all-above k [] h = tt
all-above k (r ∷ rs) h = (out-above k r (h 0 r (omega arith)), all-above k rs (λ n d a. h (suc n) d (omega (arith, a))))

-- a key below the bound and not above where later ranges start is not above the end
up-to-end : (k s : List ℕ) (rs : List Range) → Tiles s rs → key_le k bound ≡ true → ((n : ℕ) (d : Range) → n < length rs → key_lt (start_of (get_or rs n d)) k ≡ false) → key_le k s ≡ true
up-to-end k s [] t low h = subst (λ z. key_le k z ≡ true) (sym t) low
up-to-end k s (r ∷ rs) t low h = subst (λ z. key_le k z ≡ true) t.0.begins (le_of_not_lt (start_of r) k (h 0 r (omega arith)))

one-reversed : (r : Range) (rs : List Range) → reverse (r ∷ rs) ≡ reverse rs ++ r ∷ []
one-reversed r rs = reverse-append (r ∷ []) rs

pub reverse-rows : (k s : List ℕ) (rs : List Range) (i : ℕ) → Tiles s rs → key_le k bound ≡ true → IsPoint (λ r. key_lt (start_of r) k) rs i → i ≤ length rs → reverse (take i rs) ≡ from_first (back k) (reverse rs)
reverse-rows k s [] i t low p within = ap reverse (take_all i [] (omega arith))
reverse-rows k s (r ∷ rs) zero t low p within =
    let none : Each (λ r. back k r ≡ false) (reverse (r ∷ rs)) = each-reverse (back k) (r ∷ rs) (all-above k (r ∷ rs) (λ n d a. p.1 n d (omega arith) a)) in
    let past : from_first (back k) (reverse (r ∷ rs) ++ []) ≡ [] = past-none (back k) (reverse (r ∷ rs)) [] none in
    sym (ap (from_first (back k)) (sym (append_nil (reverse (r ∷ rs)))) ∙ past)
reverse-rows k s (r ∷ rs) (suc zero) t low p within =
    let later : (n : ℕ) (d : Range) → n < length rs → key_lt (start_of (get_or rs n d)) k ≡ false = λ n d a. p.1 (suc n) d (omega arith) (omega (arith, a)) in
    let here : back k r ≡ true = and_both _ _ (p.0 0 r (omega arith) (omega arith)) (up-to-end k (end_of r) rs t.1 low later) in
    sym (
    ap (from_first (back k)) (one-reversed r rs)
    ∙ past-none (back k) (reverse rs) (r ∷ []) (each-reverse (back k) rs (all-above k rs later))
    ∙ ap (λ b. cond b (r ∷ []) []) here
    )
reverse-rows k s (r ∷ rs) (suc (suc j)) t low p within =
    let rest : reverse (take (suc j) rs) ≡ from_first (back k) (reverse rs) = reverse-rows k (end_of r) rs (suc j) t.1 low (λ n d a b. p.0 (suc n) d (omega arith) (omega (arith, b)), λ n d a b. p.1 (suc n) d (omega (arith, a)) (omega (arith, b))) (omega (arith, within)) in
    let long : length (reverse (take (suc j) rs)) ≡ length (take (suc j) rs) = length-reverse (take (suc j) rs) in
    let some : 0 < length (from_first (back k) (reverse rs)) = subst (λ zs. 0 < length zs) rest (omega (arith, within, long, length-take (suc j) rs)) in
    one-reversed r (take (suc j) rs) ∙ ap (λ zs. zs ++ r ∷ []) rest
    ∙ sym (ap (from_first (back k)) (one-reversed r rs) ∙ past-some (back k) (reverse rs) (r ∷ []) some)

-- ---- one by one

pub ordered-long : (d : Dir) (rs : List Range) → length (in_order d rs) ≡ length rs
ordered-long Forward rs = refl
ordered-long Reverse rs = length-reverse rs

-- the range at a place in reverse
pub from-the-end : (rs : List Range) (i : ℕ) (r : Range) → i < length rs → r ≡ get_or rs (length rs - 1 - i) r → slice_get (reverse rs) i ≡ Some r
from-the-end rs i r low is = slice_get_read (reverse rs) (length rs) i r (sym (length-reverse rs)) low (is ∙ sym (get_or-reverse rs i r low))

pub row-more : {X Y : Type 0} (f : X → Y) (xs : List X) (i : ℕ) (x : X) (rows after : List Y) → slice_get xs i ≡ Some x → i < length xs → rows ≡ map f (take i xs) → after ≡ rows ++ f x ∷ [] → after ≡ map f (take (i + 1) xs)
row-more f xs i x rows after at low so_far more =
    more ∙ ap (λ zs. zs ++ f x ∷ []) so_far ∙ sym (map_push f (take i xs) x)
    ∙ ap (λ zs. map f zs) (ap (λ z. take i xs ++ z ∷ []) (sym (get_or_from_slice_get xs i x x at)) ∙ sym (take_more xs i x low))

-- ---- the parts that a lookup goes over

pub rows-forward : (d : Dir) (k : List ℕ) (rs : List Range) (i : ℕ) → d ≡ Forward → Tiles [] rs → IsPoint (λ r. key_le (end_of r) k) rs i → in_order d (take (length rs - i) (drop i rs)) ≡ from_first (λ r. contains d k r.info.desc.span) (in_order d rs)
rows-forward d k rs i is t p =
    subst (λ z. in_order z (take (length rs - i) (drop i rs)) ≡ from_first (λ r. contains z k r.info.desc.span) (in_order z rs)) (sym is)
    (take_rest rs i ∙ forward-rows k [] rs i t (least k) p)

pub rows-back : (d : Dir) (k : List ℕ) (rs : List Range) (i : ℕ) → d ≡ Reverse → Tiles [] rs → key_le k bound ≡ true → IsPoint (λ r. key_lt (start_of r) k) rs i → i ≤ length rs → in_order d (take i rs) ≡ from_first (λ r. contains d k r.info.desc.span) (in_order d rs)
rows-back d k rs i is t low p within =
    subst (λ z. in_order z (take i rs) ≡ from_first (λ r. contains z k r.info.desc.span) (in_order z rs)) (sym is) (reverse-rows k [] rs i t low p within)
