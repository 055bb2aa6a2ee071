use Rattle.std.proofs.Common.{◌≡◌, drop}
use Rattle.ds_rule.specs.Begin.{rises}
use Rattle.ds_ranges.proofs.begin.rises.Given as goal

-- what is still to be looked at decides
abbrev pub invariant-loop-i : goal.invariant-loop-i
invariant-loop-i l = rises l.ranges ≡ rises (drop l.i l.ranges)
