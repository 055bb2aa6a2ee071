use Rattle.ds_sim.proofs.Shifting.{made-done, made-more}
use Rattle.ds_sim.proofs.shift.shift_each.Goals as goal

pub each-preserved : goal.each-preserved
each-preserved c =
    made-more c.args.shifts.now c.each.next-index c.next-item.result c.args.ranges.now c.each.ranges c.make_shift.new.ranges c.next-item.is c.each-test.true c.in_ok-make_shift.ensures.ok c.each.invariant

pub returns : goal.returns
returns c = made-done c.args.shifts.now c.each.next-index c.args.ranges.now c.each.ranges c.each-test.false c.each.invariant
