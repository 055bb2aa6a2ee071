use Rattle.std.proofs.Common.{OnOk, subst}
use Rattle.ds_rule.specs.Shifts.{move_to}
use Rattle.ds_ranges.specs.Layout.{Became}
use Rattle.ds_sim.proofs.event.place_copy.Goals as goal

pub returns-clause-ok : goal.returns-clause-ok
returns-clause-ok c =
    subst (λ ns. OnOk c.place.result (Became (move_to c.args.key.now ns) c.args.ranges.now c.place.new.self)) c.in_ok-copy.ensures c.place.ensures.ok
