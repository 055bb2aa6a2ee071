use Rattle.std.proofs.Common.{rules, ◌≡◌}
use Rattle.std.specs.Range.{range_inclusive_start, range_inclusive_end}
use Rattle.ds_serve.proofs.Written.{le_own}
use Rattle.ds_serve.proofs.resolve.keys_in.Goals as goal

pub range-requires : goal.range-requires
range-requires c =
    let from : (range_inclusive_start c.new.result).now ≡ c.in-Point.key.now = search rules in
    let to : (range_inclusive_end c.new.result).now ≡ c.in-Point.key.now = search rules in
    le_own _ _ c.in-Point.key.now from to
