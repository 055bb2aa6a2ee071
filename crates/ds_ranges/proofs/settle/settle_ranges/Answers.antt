use Rattle.std.proofs.Common.{◌≡◌, ◌<◌, ◌≤◌, length, Some, refl, ap, ◌∙◌, arith, slice_get}
use Rattle.std.proofs.lemmas.Option.{slice_get_read}
use Rattle.ds_rule.specs.Close.{settle_range}
use Rattle.ds_ranges.proofs.Alike.{alike_itself, alike_set, map-set, mapped_more, mapped_done, mapped_long, settle-same}
use Rattle.ds_ranges.proofs.settle.settle_ranges.Goals as goal

pub each-init : goal.each-init
each-init c = record { made = refl; alike = alike_itself c.args.ranges.now.items; again = refl }

pub returns-in_err-settle-clause-alike : goal.returns-in_err-settle-clause-alike
returns-in_err-settle-clause-alike c =
    let xs = c.each.ranges.items in
    let long : length c.each.ranges.items ≡ length c.args.ranges.now.items = ap length c.each.invariant.made ∙ mapped_long (settle_range c.args.txn.0 c.args.commit) c.each.i c.args.ranges.now.items in
    let low : c.each.i < length c.each.ranges.items = omega arith in
    let at : slice_get c.each.ranges.items c.each.i ≡ Some c.index_mut-range.result.now = slice_get_read c.each.ranges.items (length c.each.ranges.items) c.each.i c.index_mut-range.result.now refl low c.index_mut-range.ensures.value in
    alike_set c.args.ranges.now.items c.each.ranges.items c.each.i c.index_mut-range.result.now c.settle.new.self c.each.invariant.alike low at c.settle.ensures.info c.settle.ensures.keys

pub each-preserved : goal.each-preserved
each-preserved c =
    let long : length c.each.ranges.items ≡ length c.args.ranges.now.items = ap length c.each.invariant.made ∙ mapped_long (settle_range c.args.txn.0 c.args.commit) c.each.i c.args.ranges.now.items in
    let low : c.each.i < length c.each.ranges.items = omega arith in
    let at : slice_get c.each.ranges.items c.each.i ≡ Some c.index_mut-range.result.now = slice_get_read c.each.ranges.items (length c.each.ranges.items) c.each.i c.index_mut-range.result.now refl low c.index_mut-range.ensures.value in
    record {
      made = mapped_more (settle_range c.args.txn.0 c.args.commit) c.each.i c.args.ranges.now.items c.each.ranges.items c.index_mut-range.result.now c.settle.new.self c.each.invariant.made low at c.in_ok-settle.ensures.ok;
      alike = alike_set c.args.ranges.now.items c.each.ranges.items c.each.i c.index_mut-range.result.now c.settle.new.self c.each.invariant.alike low at c.settle.ensures.info c.settle.ensures.keys;
      again =
          map-set (settle_range c.args.txn.0 c.args.commit) c.each.ranges.items c.each.i c.index_mut-range.result.now c.settle.new.self low at
          (settle-same c.args.txn.0 c.args.commit c.index_mut-range.result.now c.settle.new.self c.settle.ensures.info c.settle.ensures.partly)
          ∙ c.each.invariant.again;
    }

pub returns-clause-ok : goal.returns-clause-ok
returns-clause-ok c =
    let long : length c.each.ranges.items ≡ length c.args.ranges.now.items = ap length c.each.invariant.made ∙ mapped_long (settle_range c.args.txn.0 c.args.commit) c.each.i c.args.ranges.now.items in
    let high : length c.each.ranges.items ≤ c.each.i = omega arith in
    mapped_done (settle_range c.args.txn.0 c.args.commit) c.each.i c.args.ranges.now.items c.each.ranges.items c.each.invariant.made high

pub returns-in_err-settle-clause-again : goal.returns-in_err-settle-clause-again
returns-in_err-settle-clause-again c =
    let long : length c.each.ranges.items ≡ length c.args.ranges.now.items = ap length c.each.invariant.made ∙ mapped_long (settle_range c.args.txn.0 c.args.commit) c.each.i c.args.ranges.now.items in
    let low : c.each.i < length c.each.ranges.items = omega arith in
    let at : slice_get c.each.ranges.items c.each.i ≡ Some c.index_mut-range.result.now = slice_get_read c.each.ranges.items (length c.each.ranges.items) c.each.i c.index_mut-range.result.now refl low c.index_mut-range.ensures.value in
    map-set (settle_range c.args.txn.0 c.args.commit) c.each.ranges.items c.each.i c.index_mut-range.result.now c.settle.new.self low at
    (settle-same c.args.txn.0 c.args.commit c.index_mut-range.result.now c.settle.new.self c.settle.ensures.info c.settle.ensures.partly)
    ∙ c.each.invariant.again
