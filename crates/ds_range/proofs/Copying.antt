-- A map copied cell by cell, in the order of the keys.
use Rattle.std.proofs.Common.{◌≡◌, ℕ, true, false, List, [], ◌∷◌, ◌++◌, refl, sym, ap, ◌∙◌, subst, append_assoc}
use Rattle.std.specs.BTreeMap.{insert_entry}
use Rattle.std.specs.Ordering.{is_lt, match_ordering, ordering_reverse}
use Rattle.std.specs.declared.cmp.Ordering.{Ordering}
use Rattle.std.specs.declared.cmp.Ordering.TheVariants.{Less, Equal, Greater}
use Rattle.std.proofs.lemmas.Cmp.{nat_list_cmp_total}
use Rattle.ds_base.specs.Order.{key_cmp, key_lt}
use Rattle.ds_base.specs.Ordered.{AllBelow, AllOver, Ascends}
use Rattle.ds_cell.specs.Ask.{Cell, Cells, key_of}
use Rattle.ds_cell.specs.Content.{Content}

turned : (o : Ordering) → is_lt o ≡ true → ordering_reverse o ≡ Greater
turned Less h = refl
turned Equal h = cc
turned Greater h = cc

greater : (a b : List ℕ) → key_lt a b ≡ true → key_cmp b a ≡ Greater
greater a b h = nat_list_cmp_total.antisymm b a ∙ turned (key_cmp a b) h

-- a cell put in behind all others
pub put-last : (k : List ℕ) (c : Content) (es : Cells) → AllBelow key_of k es → insert_entry key_cmp es k c ≡ es ++ (k, c) ∷ []
put-last k c [] low = refl
put-last k c (p ∷ ps) low =
    ap (λ o. match_ordering o ((k, c) ∷ p ∷ ps) ((p.0, c) ∷ ps) (p ∷ insert_entry key_cmp ps k c)) (greater p.0 k low.0)
    ∙ ap (λ zs. p ∷ zs) (put-last k c ps low.1)

over-at : (k : List ℕ) (xs : Cells) (p : Cell) (ys : Cells) → AllOver key_of k (xs ++ p ∷ ys) → key_lt k p.0 ≡ true
over-at k [] p ys all = all.0
over-at k (x ∷ xs) p ys all = over-at k xs p ys all.1

below-at : (xs : Cells) (p : Cell) (ys : Cells) → Ascends key_of (xs ++ p ∷ ys) → AllBelow key_of p.0 xs
below-at [] p ys asc = tt
below-at (x ∷ xs) p ys asc = (over-at x.0 xs p ys asc.0, below-at xs p ys asc.1)

-- the next cell comes behind those so far
pub next-last : (made left rest all : Cells) (p : Cell) → Ascends key_of all → left ≡ p ∷ rest → made ++ left ≡ all → AllBelow key_of p.0 made
next-last made left rest all p asc is so_far =
    below-at made p rest (subst (Ascends key_of) (sym (ap (λ z. made ++ z) (sym is) ∙ so_far)) asc)

pub copied-more : (made now left rest all : Cells) (p : Cell) → now ≡ made ++ p ∷ [] → left ≡ p ∷ rest → made ++ left ≡ all → now ++ rest ≡ all
copied-more made now left rest all p more is so_far =
    ap (λ z. z ++ rest) more ∙ append_assoc made (p ∷ []) rest ∙ ap (λ z. made ++ z) (sym is) ∙ so_far
