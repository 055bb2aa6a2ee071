use Rattle.std.proofs.Common.{◌≡◌, ◌++◌, ◌+◌, drop, true}
use Rattle.ds_rule.specs.Begin.{rises, ranges_of}
use Rattle.ds_ranges.proofs.begin.first_ranges.Given as goal

-- the ranges made so far, and those still to be made
abbrev pub invariant-each : goal.invariant-each
invariant-each l = record {
  made : l.made.items ++ ranges_of l.id (drop l.i l.ranges) ≡ ranges_of 1 l.ranges;
  rise : rises (drop l.i l.ranges) ≡ true;
  counts : l.id ≡ l.i + 1;
}
