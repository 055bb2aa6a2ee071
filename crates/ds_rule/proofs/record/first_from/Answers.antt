use Rattle.std.proofs.Common.{rules, nat_lt}
use Rattle.std.proofs.lemmas.List.Sorted.{IsPartitionPoint-from_clause, IsPartitionedBy-ltb}
use Rattle.ds_cell.proofs.Ranks.{rises-up}
use Rattle.ds_rule.specs.Records.{record_number}
use Rattle.ds_rule.proofs.record.first_from.Goals as goal

pub returns : goal.returns
returns c =
    let items = c.args.items.now in
    let n = c.args.number.0 in
    let parted = IsPartitionedBy-ltb record_number items n (rises-up record_number items c.requires) in
    IsPartitionPoint-from_clause (λ x. nat_lt (record_number x) n) items c.partition_point.result c.partition_point.ensures.partitioned parted (λ a r q k. search rules)
