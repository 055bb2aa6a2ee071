use Rattle.std.proofs.Common.{◌≤◌, min, length, arith}
use Rattle.ds_serve.proofs.Endings.{end_none}
use Rattle.ds_serve.proofs.ends.first_end.Goals as goal

pub returns : goal.returns
returns c =
    let over : min (length c.args.items.now) (length c.args.replies.now) ≤ c.ends.i = omega arith in
    end_none c.args.items.now c.args.replies.now c.ends.i _ over c.ends.invariant
