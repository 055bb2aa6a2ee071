use Rattle.std.proofs.Common.{rules, ◌≡◌, ◌++◌, ◌∷◌, [], ◌+◌, drop, arith}
use Rattle.ds_rule.specs.Begin.{next_start}
use Rattle.ds_ranges.proofs.Starting.{next_range, next_end, one_range_more, later_rise}
use Rattle.ds_ranges.proofs.begin.first_ranges.Goals as goal

pub each-preserved : goal.each-preserved
each-preserved c =
    let are : drop c.each.i c.args.ranges.now ≡ c.index-ranges-i.result ∷ drop (c.each.i + 1) c.args.ranges.now = next_range c.args.ranges.now c.each.i c.index-ranges-i.result c.each-test.true c.index-ranges-i.is in
    let end : c.in_ok-end.end ≡ next_start (drop (c.each.i + 1) c.args.ranges.now) = next_end c.args.ranges.now (c.each.i + 1) c.in_ok-end.end c.in_ok-end.ensures in
    let more : c.push.new.self.items ≡ c.each.made.items ++ c.in_ok-first_range.field-0 ∷ [] = search rules in
    record {
      made = one_range_more _ _ c.each.id c.index-ranges-i.result c.in_ok-end.end c.in_ok-first_range.field-0 c.each.made.items c.push.new.self.items _ are end c.in_ok-first_range.ensures more c.each.invariant.made;
      rise = later_rise _ _ c.index-ranges-i.result are c.each.invariant.rise;
      counts = omega (arith, c.each.invariant.counts);
    }
