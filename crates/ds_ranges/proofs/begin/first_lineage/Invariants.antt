use Rattle.std.proofs.Common.{◌≡◌, take}
use Rattle.ds_ranges.specs.Layout.{own_descs}
use Rattle.ds_ranges.proofs.begin.first_lineage.Given as goal

abbrev pub invariant-each : goal.invariant-each
invariant-each l = l.lineage ≡ own_descs (take l.i l.ranges)
