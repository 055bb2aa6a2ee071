use Rattle.std.proofs.Common.{sym, ap, ◌∙◌}
use Rattle.ds_base.specs.Order.{key_le}
use Rattle.ds_legal.proofs.RuleFacts.{overtakes_point}
use Rattle.ds_legal.proofs.firsts.overtakes.Goals as goal

pub returns-in-Point : goal.returns-in-Point
returns-in-Point c =
    let k = c.in-Point.key.now in
    c.le.ensures
    ∙ ap (λ s. key_le s k) c.start-start.ensures
    ∙ sym (overtakes_point c.args.first.now c.args.second.now k c.in-Point.ensures)
