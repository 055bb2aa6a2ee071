use Rattle.std.proofs.Common.{rules}
use Rattle.std.proofs.lemmas.List.Sorted.{IsPartitionPoint-from_clause}
use Rattle.ds_rule.specs.World.{start_of}
use Rattle.ds_ranges.specs.Touching.{ends_above}
use Rattle.ds_ranges.proofs.touched.reached.Goals as goal

pub returns-clause-point : goal.returns-clause-point
returns-clause-point c =
    let ranges = c.args.ranges.now in
    IsPartitionPoint-from_clause (λ r. ends_above c.args.items.now (start_of r)) ranges c.partition_point.result c.partition_point.ensures.partitioned c.requires (λ a r q k. search rules)
