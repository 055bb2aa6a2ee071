-- The positions of each part of a batch rise.
use Rattle.std.proofs.Common.{◌≡◌, ℕ, ◌+◌, ◌<◌, Bool, true, false, cond, List, [], ◌∷◌, ◌++◌, map, refl, sym, ap, subst, inl, inr, arith}
use Rattle.ds_base.specs.declared.value.Seq.{Seq}
use Rattle.ds_kind.specs.Groups.{groups, groups_from}
use Rattle.ds_kind.specs.Parts.{item_may_join, items_from, part_of, parts_of}
use Rattle.ds_kind.specs.declared.batch.Item.{Item}
use Rattle.ds_kind.specs.declared.batch.Part.{Part}
use Rattle.ds_kind.specs.declared.request.Request.{Request}
use Rattle.ds_cover.specs.Items.{item_pos, AllAfter, PositionsRise, IsOneOf}

-- of lists put together

after-first : (n : ℕ) (xs ys : List Item) → AllAfter item_pos n (xs ++ ys) → AllAfter item_pos n xs
after-first n [] ys h = tt
after-first n (x ∷ xs) ys h = (h.0, after-first n xs ys h.1)

rise-first : (xs ys : List Item) → PositionsRise (xs ++ ys) → PositionsRise xs
rise-first [] ys h = tt
rise-first (x ∷ xs) ys h = (after-first x.pos xs ys h.0, rise-first xs ys h.1)

rise-last : (xs ys : List Item) → PositionsRise (xs ++ ys) → PositionsRise ys
rise-last [] ys h = h
rise-last (x ∷ xs) ys h = rise-last xs ys h.1

-- of a batch's items

one-later : (n m : ℕ) → n < m → n < m + 1
one-later n m h = omega (arith, h)

next-later : (n : ℕ) → n < n + 1
next-later n = omega arith

items-after : (n m : ℕ) (rs : List Request) (ss : List Seq) → n < m → AllAfter item_pos n (items_from m rs ss)
items-after n m [] ss h = tt
items-after n m (r ∷ rs) [] h = tt
items-after n m (r ∷ rs) (s ∷ ss) h = (h, items-after n (m + 1) rs ss (one-later n m h))

items-rise : (m : ℕ) (rs : List Request) (ss : List Seq) → PositionsRise (items_from m rs ss)
items-rise m [] ss = tt
items-rise m (r ∷ rs) [] = tt
items-rise m (r ∷ rs) (s ∷ ss) = (items-after m (m + 1) rs ss (next-later m), items-rise (m + 1) rs ss)

-- of groups of neighbours

assoc : (a b c : List Item) → a ++ (b ++ c) ≡ (a ++ b) ++ c
assoc [] b c = refl
assoc (x ∷ a) b c = ap (λ z. x ∷ z) (assoc a b c)

groups-rise-from : (may_join : List Item → Item → Bool) (last xs : List Item) → PositionsRise (last ++ xs) → (g : List Item) → IsOneOf g (groups_from may_join last xs) → PositionsRise g
groups-rise-from may_join last [] h g there =
    elim there [
      | inl same ↦ subst PositionsRise (sym same) (rise-first last [] h)
      | inr none ↦ absurd none
    ]
groups-rise-from may_join last (x ∷ xs) h g there =
    elim (may_join last x) as (λ t. IsOneOf g (cond t (groups_from may_join (last ++ x ∷ []) xs) (last ∷ groups_from may_join (x ∷ []) xs)) → PositionsRise g) [
      | true ↦ λ in_it. groups-rise-from may_join (last ++ x ∷ []) xs (subst PositionsRise (assoc last (x ∷ []) xs) h) g in_it
      | false ↦ λ in_it. elim in_it [
        | inl same ↦ subst PositionsRise (sym same) (rise-first last (x ∷ xs) h)
        | inr rest ↦ groups-rise-from may_join (x ∷ []) xs (rise-last last (x ∷ xs) h) g rest
      ]
    ] there

groups-rise : (may_join : List Item → Item → Bool) (items : List Item) → PositionsRise items → (g : List Item) → IsOneOf g (groups may_join items) → PositionsRise g
groups-rise may_join [] h g there = absurd there
groups-rise may_join (x ∷ xs) h g there = groups-rise-from may_join (x ∷ []) xs h g there

-- of parts

from-group : (gs : List (List Item)) (p : Part) → IsOneOf p (map part_of gs) → (g : List Item) × IsOneOf g gs × (p ≡ part_of g)
from-group [] p there = absurd there
from-group (g ∷ gs) p there =
    elim there [
      | inl same ↦ (g, inl refl, same)
      | inr rest ↦ let found = from-group gs p rest in (found.0, inr found.1, found.2)
    ]

pub parts-rise : (split_end : Bool) (requests : List Request) (seqs : List Seq) (p : Part) → IsOneOf p (parts_of split_end requests seqs) → PositionsRise p.items
parts-rise split_end requests seqs p there =
    let items = items_from 0 requests seqs in
    let found = from-group (groups (item_may_join split_end) items) p there in
    subst PositionsRise (sym (ap (λ (q : Part). q.items) found.2)) (groups-rise (item_may_join split_end) items (items-rise 0 requests seqs) found.0 found.1)
