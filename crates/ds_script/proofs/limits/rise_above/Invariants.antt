use Rattle.std.proofs.Common.{◌≡◌, drop}
use Rattle.ds_script.specs.Limits.{rise_above}
use Rattle.ds_script.proofs.limits.rise_above.Given as goal

abbrev pub invariant-loop-range : goal.invariant-loop-range
invariant-loop-range l =
    rise_above l.last (drop l.range-index l.ranges) ≡ rise_above l.start l.ranges
