-- Which lists of nodes hold a range.
use Rattle.std.specs.Prelude.{◌≡◌, ℕ, ◌≤◌, Bool, true, false, not, ◌&&◌, ◌==◌, List, [], ◌∷◌, length, nat_le, refl}
use Rattle.std.specs.List.{list_any}

-- no node stands twice
abbrev pub no_twice : List ℕ → Bool
no_twice [] = true
no_twice (n ∷ ns) = not (list_any (λ m. m == n) ns) && no_twice ns

-- one to seven nodes, none twice
abbrev pub are_replicas : List ℕ → Bool
are_replicas ns = nat_le 1 (length ns) && nat_le (length ns) 7 && no_twice ns

abbrev pub AreReplicas : List ℕ → Type 0
AreReplicas ns = are_replicas ns ≡ true

three_nodes : are_replicas (1 ∷ 2 ∷ 3 ∷ []) ≡ true
three_nodes = refl

no_node : are_replicas [] ≡ false
no_node = refl

a_node_twice : are_replicas (1 ∷ 2 ∷ 1 ∷ []) ≡ false
a_node_twice = refl
