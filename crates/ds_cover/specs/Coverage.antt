-- How the work of a part stands in blocks of items: at each key all of its positions stand in one block.
use Rattle.std.specs.Prelude.{◌≡◌, ℕ, ◌⊎◌, Bool, List, [], ◌∷◌, map, if◌then◌else◌, refl}
use Rattle.std.proofs.Common.{inl, inr}
use Rattle.ds_base.specs.Order.{holds}
use Rattle.ds_kind.specs.Request.{span_of}
use Rattle.ds_kind.specs.declared.batch.Item.{Item}
use Rattle.ds_kind.specs.declared.request.Request.TheVariants.{Get, Scan}

-- which items hold a key

abbrev pub holds_at : List ℕ → Item → Bool
holds_at k i = holds (span_of i.request).start (span_of i.request).end k

-- the positions of the items that hold the key, in order
abbrev pub positions_at : List ℕ → List Item → List ℕ
positions_at k [] = []
positions_at k (i ∷ is) = if holds_at k i then i.pos ∷ positions_at k is else positions_at k is

-- blocks

abbrev pub AllNone : List (List ℕ) → Type 0
AllNone [] = Unit {0}
AllNone (b ∷ bs) = (b ≡ []) × AllNone bs

-- one block has all of these, in order, and the others have none
abbrev pub Shares : List ℕ → List (List ℕ) → Type 0
Shares ws [] = ws ≡ []
Shares ws (b ∷ bs) = ((b ≡ ws) × AllNone bs) ⊎ ((b ≡ []) × Shares ws bs)

-- at each key one block has the positions that the items have there, in order, and the others have none
abbrev pub Covered : List Item → List (List Item) → Type 0
Covered items blocks = (k : List ℕ) → Shares (positions_at k items) (map (positions_at k) blocks)

-- parts one after another, each covered by blocks of its own
abbrev pub AllCovered : List (List Item) → List (List (List Item)) → Type 0
AllCovered [] [] = Unit {0}
AllCovered [] (w ∷ ws) = ⊥
AllCovered (p ∷ ps) [] = ⊥
AllCovered (p ∷ ps) (w ∷ ws) = Covered p w × AllCovered ps ws

-- a scan of [b, d) and a get of c: both hold c, the scan alone b, and none d
abbrev scan_and_get : List Item
scan_and_get =
    record { pos = 2; seq = record { 0 = 0 }; request = Scan (record { start = 98 ∷ []; end = 100 ∷ [] }) }
    ∷ record { pos = 5; seq = record { 0 = 0 }; request = Get (record { key = 99 ∷ [] }) }
    ∷ []

both_at_c : positions_at (99 ∷ []) scan_and_get ≡ 2 ∷ 5 ∷ []
both_at_c = refl

one_at_b : positions_at (98 ∷ []) scan_and_get ≡ 2 ∷ []
one_at_b = refl

none_at_d : positions_at (100 ∷ []) scan_and_get ≡ []
none_at_d = refl

-- one block has both
both_in_one : Shares (1 ∷ 2 ∷ []) ([] ∷ (1 ∷ 2 ∷ []) ∷ [] ∷ [])
both_in_one = inr (refl, inl (refl, (refl, tt)))
