use Rattle.std.proofs.Common.{◌≡◌, ◌++◌, drop}
use Rattle.ds_sim.specs.Done.{shifts_of}
use Rattle.ds_sim.proofs.shift.shifts_of.Given as goal

-- the shifts so far, and those of the items still to come
abbrev pub invariant-each : goal.invariant-each
invariant-each l = l.shifts.items ++ shifts_of (drop l.i l.items) (drop l.i l.replies) ≡ shifts_of l.items l.replies
