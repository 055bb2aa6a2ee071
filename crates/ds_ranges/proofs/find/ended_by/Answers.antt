use Rattle.std.proofs.Common.{rules, []}
use Rattle.std.proofs.lemmas.List.Sorted.{IsPartitionPoint-from_clause}
use Rattle.ds_base.specs.Order.{key_le}
use Rattle.ds_rule.specs.World.{end_of}
use Rattle.ds_ranges.proofs.Finding.{ends-parted}
use Rattle.ds_ranges.proofs.find.ended_by.Goals as goal

pub returns-clause-point : goal.returns-clause-point
returns-clause-point c =
    let ranges = c.args.ranges.now in
    let key = c.args.key.now in
    IsPartitionPoint-from_clause (λ r. key_le (end_of r) key) ranges c.partition_point.result c.partition_point.ensures.partitioned (ends-parted key [] ranges c.requires) (λ a r q k. search rules)
