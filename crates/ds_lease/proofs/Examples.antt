-- Worked examples of what every order keeps, some that hold and some that must not.
use Rattle.std.proofs.Common.{◌≡◌, true, false, [], ◌∷◌, refl, lit≤}
use Rattle.ds_lease.specs.Turns.{IsOrder}

two_of_three_wait : IsOrder (record { replicas = 1 ∷ 2 ∷ 3 ∷ []; waiting = 3 ∷ 1 ∷ [] })
two_of_three_wait = record { few = lit≤ tt; once = refl; known = refl }

none_waits_twice : IsOrder (record { replicas = 1 ∷ 2 ∷ 3 ∷ []; waiting = 3 ∷ 1 ∷ 3 ∷ [] }) → ⊥
none_waits_twice o = let once : false ≡ true = o.once in cc

no_other_node_waits : IsOrder (record { replicas = 1 ∷ 2 ∷ 3 ∷ []; waiting = 3 ∷ 4 ∷ [] }) → ⊥
no_other_node_waits o = let known : false ≡ true = o.known in cc
