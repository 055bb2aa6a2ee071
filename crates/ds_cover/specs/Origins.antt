-- Blocks of cuts: each item is a part's item, cut, under its own position and number.
use Rattle.std.specs.Prelude.{◌≡◌, ℕ, ◌⊎◌, true, List, [], ◌∷◌, refl}
use Rattle.std.proofs.Common.{inl, inr}
use Rattle.ds_base.specs.Order.{Extent, key_le}
use Rattle.ds_kind.specs.Request.{cut_to, span_of}
use Rattle.ds_kind.specs.declared.batch.Item.{Item}
use Rattle.ds_kind.specs.declared.request.Request.TheVariants.{Get, Scan}

-- the first span lies in the second
abbrev pub LiesIn : Extent → Extent → Type 0
LiesIn x y = (key_le y.start x.start ≡ true) × (key_le x.end y.end ≡ true)

-- the second item is the first, cut to a part of its span
pub record IsCut (i c : Item) : Type 0 where
  pub same : c ≡ record i { request = cut_to (span_of c.request).start (span_of c.request).end i.request }
  pub inside : LiesIn (span_of c.request) (span_of i.request)

-- each of the second items is a cut of one of the first, and they stand in the order of the first
abbrev pub CutsOf : List Item → List Item → Type 0
CutsOf items [] = Unit {0}
CutsOf [] (c ∷ cs) = ⊥
CutsOf (i ∷ is) (c ∷ cs) = (IsCut i c × CutsOf is cs) ⊎ CutsOf is (c ∷ cs)

-- a scan of [b, d), under one position and number, and a get of c

abbrev pub scan_of : ℕ → List ℕ → List ℕ → Item
scan_of n s e = record { pos = n; seq = record { 0 = n }; request = Scan (record { start = s; end = e }) }

abbrev pub get_of : ℕ → List ℕ → Item
get_of n k = record { pos = n; seq = record { 0 = n }; request = Get (record { key = k }) }

abbrev pub scan_then_get : List Item
scan_then_get = scan_of 2 (98 ∷ []) (100 ∷ []) ∷ get_of 5 (99 ∷ []) ∷ []

a_part_of_the_scan : IsCut (scan_of 2 (98 ∷ []) (100 ∷ [])) (scan_of 2 (98 ∷ []) (99 ∷ []))
a_part_of_the_scan = record { same = refl; inside = (refl, refl) }

both_cut : CutsOf scan_then_get (scan_of 2 (99 ∷ []) (100 ∷ []) ∷ get_of 5 (99 ∷ []) ∷ [])
both_cut = inl (record { same = refl; inside = (refl, refl) }, inl (record { same = refl; inside = (refl, refl) }, tt))

the_second_alone : CutsOf scan_then_get (get_of 5 (99 ∷ []) ∷ [])
the_second_alone = inr (inl (record { same = refl; inside = (refl, refl) }, tt))
