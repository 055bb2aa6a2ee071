use Rattle.std.proofs.Common.{rules, not}
use Rattle.std.proofs.lemmas.List.Sorted.{IsPartitionPoint-from_clause}
use Rattle.ds_rule.specs.World.{end_of}
use Rattle.ds_ranges.specs.Touching.{begins_below}
use Rattle.ds_ranges.proofs.touched.before.Goals as goal

pub returns-clause-point : goal.returns-clause-point
returns-clause-point c =
    let ranges = c.args.ranges.now in
    IsPartitionPoint-from_clause (λ r. not (begins_below c.args.items.now (end_of r))) ranges c.partition_point.result c.partition_point.ensures.partitioned c.requires (λ a r q k. search rules)
