use Rattle.std.proofs.Common.{OnOk, subst}
use Rattle.ds_rule.specs.Shifts.{foreign_at}
use Rattle.ds_ranges.specs.Layout.{Became}
use Rattle.ds_sim.proofs.event.write_copy.Goals as goal

pub returns-clause-ok : goal.returns-clause-ok
returns-clause-ok c =
    subst (λ v. OnOk c.write.result (Became (foreign_at c.args.key.now record { stamp = c.args.stamp; value = v }) c.args.ranges.now c.write.new.self)) c.in_ok-copy.ensures c.write.ensures.ok
