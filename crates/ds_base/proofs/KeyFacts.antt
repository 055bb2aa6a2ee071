-- Further facts of keys: the least key, a key's own span, the lesser and the greater of two, and lists from a key on.
use Rattle.std.proofs.Common.{◌≡◌, ℕ, true, false, not, cond, ◌&&◌, List, [], ◌∷◌, refl, ap, ◌∙◌}
use Rattle.ds_base.specs.Order.{key_lt, key_le, holds, after, max_key, min_key}
use Rattle.ds_base.specs.Ordered.{AllFrom}
use Rattle.ds_base.proofs.KeyOrder.{below-after, key_le-not_lt, key_lt-irrefl}
use Rattle.ds_base.proofs.OrderedFacts.{le_of_lt, le_of_not_lt, le_trans}
use Rattle.ds_base.proofs.SmallFacts.{and_both}

pub least : (k : List ℕ) → key_le [] k ≡ true
least [] = refl
least (x ∷ xs) = refl

pub le_itself : (k : List ℕ) → key_le k k ≡ true
le_itself k = key_le-not_lt k k ∙ ap not (key_lt-irrefl k)

pub own_span : (k : List ℕ) → holds k (after k) k ≡ true
own_span k = and_both _ _ (le_itself k) (below-after k)

-- the lesser of two is not above either, and the greater not below

pub min_first : (a b : List ℕ) → key_le (min_key a b) a ≡ true
min_first a b =
    elim (key_lt b a) as (λ t. key_lt b a ≡ t → key_le (cond t b a) a ≡ true) [
      | true ↦ λ e. le_of_lt b a e
      | false ↦ λ e. le_itself a
    ] refl

pub min_second : (a b : List ℕ) → key_le (min_key a b) b ≡ true
min_second a b =
    elim (key_lt b a) as (λ t. key_lt b a ≡ t → key_le (cond t b a) b ≡ true) [
      | true ↦ λ e. le_itself b
      | false ↦ λ e. le_of_not_lt b a e
    ] refl

pub max_first : (a b : List ℕ) → key_le a (max_key a b) ≡ true
max_first a b =
    elim (key_lt a b) as (λ t. key_lt a b ≡ t → key_le a (cond t b a) ≡ true) [
      | true ↦ λ e. le_of_lt a b e
      | false ↦ λ e. le_itself a
    ] refl

pub max_second : (a b : List ℕ) → key_le b (max_key a b) ≡ true
max_second a b =
    elim (key_lt a b) as (λ t. key_lt a b ≡ t → key_le b (cond t b a) ≡ true) [
      | true ↦ λ e. le_itself b
      | false ↦ λ e. le_of_not_lt a b e
    ] refl

-- what lies from a key on lies from each lower key on
pub from_lower : {X : Type 0} (f : X → List ℕ) (m k : List ℕ) (xs : List X) → key_le m k ≡ true → AllFrom f k xs → AllFrom f m xs
from_lower f m k [] h all = tt
from_lower f m k (x ∷ xs) h all = (le_trans m k (f x) h all.0, from_lower f m k xs h all.1)
