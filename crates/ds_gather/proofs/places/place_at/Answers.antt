use Rattle.std.proofs.Common.{rules, nat_lt}
use Rattle.std.proofs.lemmas.List.Sorted.{IsPartitionPoint-from_clause}
use Rattle.ds_gather.proofs.Placing.{parted, rising_parts, point_is_prefix}
use Rattle.ds_gather.proofs.places.place_at.Goals as goal

pub returns-clause-place : goal.returns-clause-place
returns-clause-place c =
    let parts = parted (λ p. nat_lt p.wanted.pos c.args.pos) c.args.places.now (rising_parts c.args.pos c.args.places.now c.requires) in
    let point = IsPartitionPoint-from_clause (λ p. nat_lt p.wanted.pos c.args.pos) _ _ c.partition_point.ensures.partitioned parts (λ a r q k. search rules) in
    point_is_prefix (λ p. nat_lt p.wanted.pos c.args.pos) c.args.places.now c.partition_point.result c.partition_point.ensures.bound point
