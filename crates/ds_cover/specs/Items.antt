-- Items: their spans, their positions, and which stand in a list.
use Rattle.std.specs.Prelude.{◌≡◌, ℕ, ◌<◌, ◌⊎◌, ◌==◌, Bool, true, List, [], ◌∷◌, refl}
use Rattle.std.specs.List.{list_all}
use Rattle.ds_base.specs.Order.{Extent, key_lt}
use Rattle.ds_kind.specs.Asks.{has_proper_span}
use Rattle.ds_kind.specs.Parts.{requests_of}
use Rattle.ds_kind.specs.Request.{span_of}
use Rattle.ds_kind.specs.declared.batch.Item.{Item}

abbrev pub item_span : Item → Extent
item_span i = span_of i.request

abbrev pub is_at : ℕ → Item → Bool
is_at n i = i.pos == n

-- each thing's span has a key
abbrev pub AllSome : {X : Type 0} → (X → Extent) → List X → Type 0
AllSome f [] = Unit {0}
AllSome f (x ∷ xs) = (key_lt (f x).start (f x).end ≡ true) × AllSome f xs

-- the number is below those of all of these
abbrev pub AllAfter : {X : Type 0} → (X → ℕ) → ℕ → List X → Type 0
AllAfter number n [] = Unit {0}
AllAfter number n (x ∷ xs) = (n < number x) × AllAfter number n xs

-- each number is below the later ones
abbrev pub NumbersRise : {X : Type 0} → (X → ℕ) → List X → Type 0
NumbersRise number [] = Unit {0}
NumbersRise number (x ∷ xs) = AllAfter number (number x) xs × NumbersRise number xs

abbrev pub item_pos : Item → ℕ
item_pos i = i.pos

abbrev pub PositionsRise : List Item → Type 0
PositionsRise items = NumbersRise item_pos items

-- each is a range that rises, or a point after whose key there is one more
abbrev pub AreProper : List Item → Type 0
AreProper items = list_all has_proper_span (requests_of items) ≡ true

-- it is one of these
abbrev pub IsOneOf : {X : Type 0} → X → List X → Type 0
IsOneOf x [] = ⊥
IsOneOf x (y ∷ ys) = (x ≡ y) ⊎ IsOneOf x ys

two_spans : AllSome (λ x. x) (record { start = 97 ∷ []; end = 98 ∷ [] } ∷ record { start = []; end = 97 ∷ [] } ∷ [])
two_spans = (refl, (refl, tt))
