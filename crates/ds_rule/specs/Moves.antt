-- What an event does to the world.
use Rattle.std.specs.Prelude.{◌≡◌, ℕ, ◌+◌, ◌<◌, Bool, true, false, ◌==◌, find, Option, Some, None, if◌then◌else◌}
use Rattle.ds_desc.specs.Replicas.{AreReplicas}
use Rattle.ds_kind.specs.Asks.{has_room}
use Rattle.ds_rule.specs.declared.event.Event.{Event}
use Rattle.ds_rule.specs.declared.event.Event.TheVariants.{Write, Split, Merge, Lease, Move, Stale, Abort, Arrive, LoseRequest, LoseReply, Copy, Restart}
use Rattle.ds_rule.specs.Deliver.{deliver_world}
pub use Rattle.ds_rule.specs.Records.{aborted, aborted_status, with_last, with_last_after}
use Rattle.ds_rule.specs.Shifts.{foreign_at, lease_to, merge_at, move_to, split_at, stale_by}
use Rattle.ds_rule.specs.World.{World, Late, without_first}

abbrev pub counted : World → World
counted w = record w { count = w.count + 1 }

-- ---- the open transaction's record

-- it is the last one, whatever its number; a close ends it so too
abbrev pub abort_last : World → World
abort_last w = record w { records = with_last aborted w.records }

-- ---- a late copy

abbrev pub is_copy : ℕ → Late → Bool
is_copy c l = l.number == c

abbrev pub without_copy : ℕ → World → World
without_copy c w = record w { copies = without_first (is_copy c) w.copies }

abbrev pub arrived_as : Option Late → ℕ → World → World
arrived_as None c w = w
arrived_as (Some l) c w = deliver_world (without_copy c w) l.node l.piece

-- the copy of this number, if it is under way, is delivered, whatever it is answered, and is under way no longer
abbrev pub arrived : ℕ → World → World
arrived c w = arrived_as (find (is_copy c) w.copies) c w

-- ---- events

-- that a step is lost, or that a copy of it stays under way, does nothing by itself: the step that it names does so
abbrev pub effect : Event → World → World
effect (Write k s v) w = foreign_at k (record { stamp = s; value = v }) w
effect (Split k) w = split_at k w
effect (Merge k) w = merge_at k w
effect (Lease k n) w = lease_to k n w
effect (Move k ns) w = move_to k ns w
effect (Stale k b) w = stale_by k b w
effect Abort w = abort_last w
effect (Arrive c) w = arrived c w
effect (LoseRequest c) w = w
effect (LoseReply c) w = w
effect (Copy c) w = w
effect (Restart t) w = w

-- what names a step is not counted; a restart is counted as every event that is made, though it changes no record yet
abbrev pub counts : Event → Bool
counts (LoseRequest c) = false
counts (LoseReply c) = false
counts (Copy c) = false
counts e = true

abbrev pub counted_if : Bool → World → World
counted_if b w = if b then counted w else w

abbrev pub moved : World → Event → World
moved w e = counted_if (counts e) (effect e w)

-- what a wire may make by itself: a foreign write at a key that has room for one more byte, above the floor; a move to nodes
-- that may hold a range; and all else but what names a step, and a restart
abbrev pub IsMove : ℕ → Event → Type 0
IsMove floor (Write k s v) = (floor < s.0) × (has_room k ≡ true)
IsMove floor (Split k) = Unit {0}
IsMove floor (Merge k) = Unit {0}
IsMove floor (Lease k n) = Unit {0}
IsMove floor (Move k ns) = AreReplicas ns
IsMove floor (Stale k b) = Unit {0}
IsMove floor Abort = Unit {0}
IsMove floor (Arrive c) = Unit {0}
IsMove floor (LoseRequest c) = ⊥
IsMove floor (LoseReply c) = ⊥
IsMove floor (Copy c) = ⊥
IsMove floor (Restart t) = ⊥
