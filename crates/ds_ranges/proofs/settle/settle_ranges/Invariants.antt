use Rattle.std.proofs.Common.{◌≡◌, map}
use Rattle.ds_rule.specs.Close.{settle_range}
use Rattle.ds_ranges.specs.Alike.{AllAlike}
use Rattle.ds_ranges.proofs.Alike.{mapped_to}
use Rattle.ds_ranges.proofs.settle.settle_ranges.Given as goal

-- the ranges so far were settled
abbrev pub invariant-each : goal.invariant-each
invariant-each l = record {
  made : l.ranges.items ≡ mapped_to (settle_range l.txn.0 l.commit) l.i l.initial.ranges.items;
  alike : AllAlike l.initial.ranges.items l.ranges.items;
  again : map (settle_range l.txn.0 l.commit) l.ranges.items ≡ map (settle_range l.txn.0 l.commit) l.initial.ranges.items;
}
