use Rattle.std.proofs.Common.{◌≡◌, drop}
use Rattle.ds_rule.specs.World.{World}
use Rattle.ds_ranges.specs.Layout.{laid}
use Rattle.ds_sim.specs.Done.{shift_all}
use Rattle.ds_sim.proofs.shift.shift_each.Given as goal

-- what is still to come, made of the ranges as they are, makes what all make of those at first
abbrev pub invariant-each : goal.invariant-each
invariant-each l = (w : World) → shift_all (drop l.next-index l.shifts) (laid l.ranges w) ≡ shift_all l.shifts (laid l.initial.ranges w)
