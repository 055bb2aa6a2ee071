-- Every event keeps what every world keeps.
use Rattle.std.proofs.Common.{ℕ, Option, Some, None, refl, find}
use Rattle.ds_cell.specs.Store.{Asker}
use Rattle.ds_rule.specs.declared.event.Event.{Event}
use Rattle.ds_rule.specs.declared.event.Event.TheVariants.{Write, Split, Merge, Lease, Move, Stale, Abort, Arrive, LoseRequest, LoseReply, Copy, Restart}
use Rattle.ds_rule.specs.Close.{with_begin}
use Rattle.ds_rule.specs.Keeping.{Keeps}
use Rattle.ds_rule.specs.Moves.{abort_last, arrived, arrived_as, counted, is_copy, moved, without_copy}
use Rattle.ds_rule.specs.Shifts.{foreign_at, lease_to, merge_at, move_to, split_at, stale_by}
use Rattle.ds_rule.specs.World.{World, Late}
use Rattle.ds_world.specs.Laws.{HasReplicas}
use Rattle.ds_world.proofs.Delivers.{deliver-keeps}
use Rattle.ds_world.proofs.Foreign.{foreign-keeps}
use Rattle.ds_world.proofs.Shifted.{lease_keeps, merge_keeps, move_keeps, split_keeps, stale_keeps}
use Rattle.ds_world.proofs.Stretches.{keeps-same}

-- the records, the late copies and the count decide nothing of it

pub abort-keeps : (w : World) → Keeps w → Keeps (abort_last w)
abort-keeps w h = keeps-same w (abort_last w) refl refl h

pub begin-keeps : (t : Asker) (w : World) → Keeps w → Keeps (with_begin t w)
begin-keeps t w h = keeps-same w (with_begin t w) refl refl h

counted-keeps : (w : World) → Keeps w → Keeps (counted w)
counted-keeps w h = keeps-same w (counted w) refl refl h

-- a late copy that arrives is delivered

arrived-keeps : (o : Option Late) (c : ℕ) (w : World) → Keeps w → Keeps (arrived_as o c w)
arrived-keeps None c w h = h
arrived-keeps (Some l) c w h = deliver-keeps l.node l.piece (without_copy c w) (keeps-same w (without_copy c w) refl refl h)

pub arrive-keeps : (c : ℕ) (w : World) → Keeps w → Keeps (arrived c w)
arrive-keeps c w h = arrived-keeps (find (is_copy c) w.copies) c w h

pub event-keeps : (e : Event) (w : World) → HasReplicas e → Keeps w → Keeps (moved w e)
event-keeps (Write k s v) w some h = counted-keeps (foreign_at k (record { stamp = s; value = v }) w) (foreign-keeps k (record { stamp = s; value = v }) w h)
event-keeps (Split k) w some h = counted-keeps (split_at k w) (split_keeps k w h)
event-keeps (Merge k) w some h = counted-keeps (merge_at k w) (merge_keeps k w h)
event-keeps (Lease k n) w some h = counted-keeps (lease_to k n w) (lease_keeps k n w h)
event-keeps (Move k ns) w some h = counted-keeps (move_to k ns w) (move_keeps k ns w some h)
event-keeps (Stale k b) w some h = counted-keeps (stale_by k b w) (stale_keeps k b w h)
event-keeps Abort w some h = counted-keeps (abort_last w) (abort-keeps w h)
event-keeps (Arrive c) w some h = counted-keeps (arrived c w) (arrive-keeps c w h)
event-keeps (LoseRequest c) w some h = h
event-keeps (LoseReply c) w some h = h
event-keeps (Copy c) w some h = h
event-keeps (Restart t) w some h = counted-keeps w h
