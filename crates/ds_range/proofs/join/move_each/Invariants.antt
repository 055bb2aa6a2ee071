use Rattle.std.proofs.Common.{length}
use Rattle.ds_range.specs.Joins.{Among}
use Rattle.ds_range.proofs.Joining.{Moving}
use Rattle.ds_range.proofs.join.move_each.Given as goal

-- the cells still to come have a place, and with them all is as it was
abbrev pub invariant-from : goal.invariant-from
invariant-from l = record {
  among : Among l.from.entries l.to.entries;
  moving : Moving l.initial.from.entries l.initial.to.entries l.from.entries l.to.entries;
}

abbrev pub decreases-from : goal.decreases-from
decreases-from l = length l.from.entries
