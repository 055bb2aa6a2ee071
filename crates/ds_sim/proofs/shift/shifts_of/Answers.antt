use Rattle.std.proofs.Common.{◌≤◌, length, min, arith}
use Rattle.ds_sim.proofs.Shifting.{shifts-done}
use Rattle.ds_sim.proofs.shift.shifts_of.Goals as goal

pub returns : goal.returns
returns c =
    let high : min (length c.args.items.now) (length c.args.replies.now) ≤ c.each.i = omega (arith, c.min-i-end.ensures) in
    shifts-done c.args.items.now c.args.replies.now c.each.i c.each.shifts.items high c.each.invariant
