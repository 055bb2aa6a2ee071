-- What a sender does after a refusal or a loss.
use Rattle.std.specs.Prelude.{◌≡◌, ℕ, Bool, true, false, [], ◌∷◌, Option, Some, None, if◌then◌else◌, refl}
use Rattle.ds_desc.specs.declared.refusal.Refusal.{Refusal}
use Rattle.ds_desc.specs.declared.refusal.Refusal.TheVariants.{NotFound, NotLease, Mismatch}
use Rattle.ds_lease.specs.Turns.{Places, is_among, fronted, next_of, advanced}
use Rattle.ds_retry.specs.Counted.{Counts, first_counts, one_refused, one_lost, is_spent}
use Rattle.ds_retry.specs.declared.step.Step.{Step}
use Rattle.ds_retry.specs.declared.step.Step.TheVariants.{SameRoute, Relook, Recut, Exhausted}

-- to this node, or a new lookup where there is none
abbrev pub or_relook : Option ℕ → Step
or_relook None = Relook
or_relook (Some n) = SameRoute n

-- the leaseholder, where it is a replica
abbrev pub leaseholder_step : ℕ → Places → Step
leaseholder_step n o = if is_among n o.replicas then SameRoute n else Relook

-- the order once it was put in front and taken
abbrev pub leaseholder_taken : ℕ → Places → Places
leaseholder_taken n o = if is_among n o.replicas then advanced (fronted n o) else o

-- what the refusal asks for: the next node, the leaseholder if it is a replica, or a new cut
abbrev pub step_of : Places → Refusal → Step
step_of o NotFound = or_relook (next_of o)
step_of o (NotLease l) = leaseholder_step l.node o
step_of o (Mismatch infos) = Recut

-- the order then: that node was taken
abbrev pub turned : Places → Refusal → Places
turned o NotFound = advanced o
turned o (NotLease l) = leaseholder_taken l.node o
turned o (Mismatch infos) = o

abbrev pub given_up : Counts → Step
given_up c = Exhausted c.refused c.lost

-- after a refusal, by the counts with it
abbrev pub step_after : Counts → Places → Refusal → Step
step_after c o r = if is_spent c then given_up c else step_of o r

abbrev pub order_after : Counts → Places → Refusal → Places
order_after c o r = if is_spent c then o else turned o r

-- after a loss of a send to this node, by the counts with it
abbrev pub step_after_loss : Counts → ℕ → Step
step_after_loss c n = if is_spent c then given_up c else SameRoute n

abbrev pub is_exhausted : Step → Bool
is_exhausted (Exhausted refused lost) = true
is_exhausted s = false

-- a node that is tried is a replica
abbrev pub IsKnown : Places → Step → Type 0
IsKnown o (SameRoute n) = is_among n o.replicas ≡ true
IsKnown o s = Unit {0}

-- the nodes 1, 2 and 3, of which 1 was taken, and 3 then has the lease

abbrev from_two : Places
from_two = record { replicas = 1 ∷ 2 ∷ 3 ∷ []; waiting = 2 ∷ 3 ∷ [] }

abbrev lease_at : ℕ → Refusal
lease_at node = NotLease (record { node = node; number = 2 })

abbrev one_of : ℕ → Counts
one_of budget = one_refused (first_counts budget)

the_next_node : step_after (one_of 9) from_two NotFound ≡ SameRoute 2
the_next_node = refl

the_leaseholder : step_after (one_of 9) from_two (lease_at 3) ≡ SameRoute 3
the_leaseholder = refl

it_was_taken : order_after (one_of 9) from_two (lease_at 3) ≡ record { replicas = 1 ∷ 2 ∷ 3 ∷ []; waiting = 2 ∷ [] }
it_was_taken = refl

-- node 1 again, where it got the lease since
a_taken_leaseholder : step_after (one_of 9) from_two (lease_at 1) ≡ SameRoute 1
a_taken_leaseholder = refl

a_leaseholder_that_is_no_replica : step_after (one_of 9) from_two (lease_at 4) ≡ Relook
a_leaseholder_that_is_no_replica = refl

the_last_refusal : step_after (one_of 1) from_two NotFound ≡ Exhausted 1 0
the_last_refusal = refl

the_same_node_after_a_loss : step_after_loss (one_lost true (first_counts 9)) 2 ≡ SameRoute 2
the_same_node_after_a_loss = refl

the_last_loss : step_after_loss (one_lost true (first_counts 1)) 2 ≡ Exhausted 0 1
the_last_loss = refl
