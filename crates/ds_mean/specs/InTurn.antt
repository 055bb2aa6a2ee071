-- In which order the pieces of a batch come at each key: those that are answered Done, one after another, are there the
-- batch's requests in its order.
use Rattle.std.specs.Prelude.{◌≡◌, ℕ, List, [], ◌∷◌, ◌++◌, map, pos, refl}
use Rattle.ds_base.specs.declared.value.Value.TheVariants.{Int}
use Rattle.ds_kind.specs.declared.batch.Item.{Item}
use Rattle.ds_kind.specs.declared.request.Request.TheVariants.{Get, Put, Scan}
use Rattle.ds_rule.specs.declared.journal.JournalStep.{JournalStep}
use Rattle.ds_rule.specs.declared.journal.JournalStep.TheVariants.{Look, Send}
use Rattle.ds_rule.specs.Journal.{Happening, Moved, Did, Accepted, accepted_by}
use Rattle.ds_rule.specs.Pieces.{position_of}
use Rattle.ds_rule.specs.Turn.{items_at}

-- the positions of the items that speak of the key, in their order
abbrev pub places_at : List ℕ → List Item → List ℕ
places_at k items = map position_of (items_at k items)

abbrev pub items_of : List Accepted → List Item
items_of got = map (λ a. a.item) got

-- at each key these are the first of the batch's items there
abbrev pub AreFirst : List Item → List Item → Type 0
AreFirst items js = (k : List ℕ) → (more : List ℕ) × (places_at k items ≡ places_at k js ++ more)

-- at each key they are all of them
abbrev pub AreAll : List Item → List Item → Type 0
AreAll items js = (k : List ℕ) → places_at k items ≡ places_at k js

-- at some key something is still to come
abbrev pub IsLeft : List Item → List Item → Type 0
IsLeft items js = (k : List ℕ) × (n : ℕ) × (more : List ℕ) × (places_at k items ≡ places_at k js ++ n ∷ more)

-- a piece is sent after what was accepted, and before all that comes later at each of its keys
abbrev pub StepInTurn : List Item → List Accepted → JournalStep → Type 0
StepInTurn items got (Look k d l) = Unit {0}
StepInTurn items got (Send n p a) = AreFirst items (items_of got ++ p.items)

-- each of them is, where so much was accepted before
abbrev pub AllInTurn : List Item → List Accepted → List Happening → Type 0
AllInTurn items got [] = Unit {0}
AllInTurn items got (Moved e ∷ hs) = AllInTurn items got hs
AllInTurn items got (Did s ∷ hs) = StepInTurn items got s × AllInTurn items (got ++ accepted_by s) hs

-- a put at "a", a scan from "a" to "c", and a get at "b"

abbrev a_put : Item
a_put = record { pos = 0; seq = record { 0 = 1 }; request = Put (record { key = 97 ∷ []; value = Int (pos 7) }) }

abbrev a_scan : List ℕ → List ℕ → Item
a_scan s e = record { pos = 1; seq = record { 0 = 1 }; request = Scan (record { start = s; end = e }) }

abbrev a_get : Item
a_get = record { pos = 2; seq = record { 0 = 1 }; request = Get (record { key = 98 ∷ [] }) }

abbrev three : List Item
three = a_put ∷ a_scan (97 ∷ []) (99 ∷ []) ∷ a_get ∷ []

-- the part of the scan from "b" on may come before the put, since no key is in both, and the get after it
parts_in_turn : places_at (97 ∷ []) (a_scan (98 ∷ []) (99 ∷ []) ∷ a_put ∷ a_get ∷ []) ≡ 0 ∷ []
parts_in_turn = refl

-- the part from "a" may not come before the put
not_before_the_put : AreFirst three (a_scan (97 ∷ []) (98 ∷ []) ∷ []) → ⊥
not_before_the_put h = let there = (h (97 ∷ [])).1 in cc

-- nor the get before the scan of its key
not_before_the_scan : AreFirst three (a_put ∷ a_get ∷ []) → ⊥
not_before_the_scan h = let there = (h (98 ∷ [])).1 in cc

-- after the put alone the scan is left at "a"
the_scan_is_left : IsLeft three (a_put ∷ [])
the_scan_is_left = (97 ∷ [], 1, [], refl)
