-- Spans one after another: how often a key is held, chains, and what is joined over them.
use Rattle.std.specs.Prelude.{◌≡◌, ℕ, ◌+◌, ◌≤◌, Bool, true, false, List, [], ◌∷◌, refl}
use Rattle.ds_base.specs.Order.{Extent, key_lt, holds}
use Rattle.ds_base.specs.Ordered.{key_eq, AllFrom}
use Rattle.ds_kind.specs.Bodies.{in_order}

abbrev pub one_if : Bool → ℕ
one_if true = 1
one_if false = 0

-- how many of them hold the key
abbrev pub times_held : {X : Type 0} → (X → Extent) → List ℕ → List X → ℕ
times_held f k [] = 0
times_held f k (x ∷ xs) = one_if (holds (f x).start (f x).end k) + times_held f k xs

abbrev pub starts : {X : Type 0} → (X → Extent) → X → List ℕ
starts f x = (f x).start

-- in the order of their starts, whatever the order of arrival
abbrev pub by_start : {X : Type 0} → (X → Extent) → List X → List X
by_start f xs = in_order (starts f) xs

-- the first starts at s, each next where the last ended, and the last ends at e
abbrev pub Chain : {X : Type 0} → (X → Extent) → List ℕ → List ℕ → List X → Type 0
Chain f s e [] = s ≡ e
Chain f s e (x ∷ xs) = ((f x).start ≡ s) × (key_lt s (f x).end ≡ true) × Chain f (f x).end e xs

-- what they give, joined from the last to the first
abbrev pub joined_over : {X B : Type 0} → (X → B) → (B → B → B) → B → List X → B
joined_over body join none [] = none
joined_over body join none (x ∷ xs) = join (body x) (joined_over body join none xs)

-- each key is not above the later ones
abbrev pub Sorts : {X : Type 0} → (X → List ℕ) → List X → Type 0
Sorts key [] = Unit {0}
Sorts key (x ∷ xs) = AllFrom key (key x) xs × Sorts key xs

-- how many of them have the key
abbrev pub times_keyed : {X : Type 0} → (X → List ℕ) → List ℕ → List X → ℕ
times_keyed key k [] = 0
times_keyed key k (x ∷ xs) = one_if (key_eq (key x) k) + times_keyed key k xs

-- no two have one key
abbrev pub KeysDiffer : {X : Type 0} → (X → List ℕ) → List X → Type 0
KeysDiffer key xs = (k : List ℕ) → times_keyed key k xs ≤ 1

abbrev two_spans : List Extent
two_spans = record { start = 98 ∷ []; end = 100 ∷ [] } ∷ record { start = 97 ∷ []; end = 98 ∷ [] } ∷ []

a_chain : Chain (λ x. x) (97 ∷ []) (100 ∷ []) (by_start (λ x. x) two_spans)
a_chain = (refl, refl, (refl, refl, refl))

held_once : times_held (λ x. x) (98 ∷ []) two_spans ≡ 1
held_once = refl

not_past_the_end : times_held (λ x. x) (100 ∷ []) two_spans ≡ 0
not_past_the_end = refl
