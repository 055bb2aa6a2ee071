use Rattle.std.proofs.Common.{sym, subst, OnOk}
use Rattle.ds_ranges.specs.Layout.{Became}
use Rattle.ds_sim.specs.Done.{shift_world}
use Rattle.ds_sim.proofs.shift.make_shift.Goals as goal

pub returns-in-Split-clause-ok : goal.returns-in-Split-clause-ok
returns-in-Split-clause-ok c =
    subst (λ s. OnOk c.split.result (Became (shift_world s) c.args.ranges.now c.split.new.self)) (sym c.in-Split.is) c.split.ensures.ok

pub returns-in-Lease-clause-ok : goal.returns-in-Lease-clause-ok
returns-in-Lease-clause-ok c =
    subst (λ s. Became (shift_world s) c.args.ranges.now c.lease.new.self) (sym c.in-Lease.is) c.lease.ensures
