-- Which replica of a range is tried next.
use Rattle.std.specs.Prelude.{◌≡◌, ℕ, ◌≤◌, ◌==◌, Bool, true, not, List, [], ◌∷◌, Option, Some, None, length, filter, drop, slice_get, if◌then◌else◌, refl}
use Rattle.std.specs.List.{list_any, list_all}
use Rattle.ds_desc.specs.Replicas.{no_twice}
use Rattle.ds_desc.specs.declared.desc.Info.{Info}

-- the replicas, and those of them that wait for their turn, the next one first
pub record Places : Type 0 where
  pub replicas : List ℕ
  pub waiting : List ℕ

abbrev pub is_among : ℕ → List ℕ → Bool
is_among n ns = list_any (λ m. m == n) ns

abbrev pub without_node : ℕ → List ℕ → List ℕ
without_node n ns = filter (λ m. not (m == n)) ns

-- what every order keeps: at most seven replicas, and none of them waits twice
pub record IsOrder (o : Places) : Type 0 where
  pub few : length o.replicas ≤ 7
  pub once : no_twice o.waiting ≡ true
  pub known : list_all (λ n. is_among n o.replicas) o.waiting ≡ true

-- a replica put in front of those that wait, among which it then stands once; any other node
-- changes nothing
abbrev pub fronted : ℕ → Places → Places
fronted n o = if is_among n o.replicas then record { replicas = o.replicas; waiting = n ∷ without_node n o.waiting } else o

-- all replicas wait in their order, but for the leaseholder, which comes first
abbrev pub order_of : Info → Places
order_of i = fronted i.lease.node (record { replicas = i.desc.nodes; waiting = i.desc.nodes })

abbrev pub next_of : Places → Option ℕ
next_of o = slice_get o.waiting 0

-- the order once its next node was taken
abbrev pub advanced : Places → Places
advanced o = record { replicas = o.replicas; waiting = drop 1 o.waiting }

-- a range on the nodes 1, 2 and 3, with the lease at this node
abbrev at_three : ℕ → Info
at_three node = record {
  desc = record { id = 1; span = record { start = []; end = 98 ∷ [] }; nodes = 1 ∷ 2 ∷ 3 ∷ []; generation = 1 };
  lease = record { node = node; number = 1 };
}

the_leaseholder_first : (order_of (at_three 3)).waiting ≡ 3 ∷ 1 ∷ 2 ∷ []
the_leaseholder_first = refl

a_lease_of_no_replica_changes_nothing : (order_of (at_three 4)).waiting ≡ 1 ∷ 2 ∷ 3 ∷ []
a_lease_of_no_replica_changes_nothing = refl

-- node 3 was taken, and comes again where it is put in front
taken_and_put_in_front : (fronted 3 (advanced (order_of (at_three 3)))).waiting ≡ 3 ∷ 1 ∷ 2 ∷ []
taken_and_put_in_front = refl

-- node 2 still waits, and moves
one_that_waits_moves : (fronted 2 (order_of (at_three 3))).waiting ≡ 2 ∷ 3 ∷ 1 ∷ []
one_that_waits_moves = refl

none_is_left : next_of (advanced (advanced (advanced (order_of (at_three 1))))) ≡ None
none_is_left = refl

one_is_left : next_of (advanced (advanced (order_of (at_three 1)))) ≡ Some 3
one_is_left = refl
