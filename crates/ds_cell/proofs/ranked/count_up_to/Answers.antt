use Rattle.std.proofs.Common.{rules, nat_le}
use Rattle.std.proofs.lemmas.List.Sorted.{IsPartitionPoint-from_clause, IsPartitionedBy-leb}
use Rattle.ds_cell.proofs.Ranks.{rises-up, point_is_place}
use Rattle.ds_cell.proofs.ranked.count_up_to.Goals as goal

pub returns-clause-place : goal.returns-clause-place
returns-clause-place g c =
    let rank = g.T.Ranked.rank in
    let parted = IsPartitionedBy-leb rank _ c.args.n (rises-up rank _ c.requires) in
    let point = IsPartitionPoint-from_clause (λ x. nat_le (rank x) c.args.n) _ _ c.partition_point.ensures.partitioned parted (λ a r q k. search rules) in
    point_is_place rank c.args.n c.args.items.now c.partition_point.result c.partition_point.ensures.bound point
