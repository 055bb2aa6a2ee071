-- Answers with their numbers in the order of arrival, and the order in which they are put.
use Rattle.std.specs.Prelude.{◌≡◌, ℕ, suc, true, List, [], ◌∷◌, map, None, refl, pos}
use Rattle.ds_base.specs.Order.{key_lt}
use Rattle.ds_kind.specs.declared.reply.Body.TheVariants.{Number}
use Rattle.ds_gather.specs.declared.arrival.Arrival.{Arrival}
use Rattle.ds_gather.specs.declared.came.Came.{Came}

abbrev pub came_in : List Came → List Arrival
came_in cs = map (λ c. c.arrival) cs

-- numbered one after another, from this number on
abbrev pub numbered : ℕ → List Arrival → List Came
numbered n [] = []
numbered n (a ∷ xs) = record { number = n; arrival = a } ∷ numbered (suc n) xs

-- each has the number of those before it
abbrev pub AreNumbered : List Came → Type 0
AreNumbered cs = cs ≡ numbered 0 (came_in cs)

-- a key, and then a number, as one key: keys stand in their order, and what has one key by its number
abbrev pub then_number : List ℕ → ℕ → List ℕ
then_number [] n = 0 ∷ n ∷ []
then_number (k ∷ ks) n = suc k ∷ then_number ks n

abbrev pub rank : Came → List ℕ
rank c = then_number c.arrival.start c.number

the_lower_key_first : key_lt (then_number (97 ∷ []) 7) (then_number (97 ∷ 0 ∷ []) 2) ≡ true
the_lower_key_first = refl

then_the_lower_number : key_lt (then_number (97 ∷ []) 2) (then_number (97 ∷ []) 7) ≡ true
then_the_lower_number = refl

abbrev came : ℕ → ℕ → Came
came n k = record { number = n; arrival = record { pos = 0; start = k ∷ []; reply = record { body = Number (pos 0); resume = None } } }

two_in_order : AreNumbered (came 0 98 ∷ came 1 97 ∷ [])
two_in_order = refl
