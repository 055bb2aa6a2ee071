use Rattle.ds_rule.proofs.Calls.{stays-after}
use Rattle.ds_sim.specs.State.{state_of}
use Rattle.ds_sim.proofs.Sending.{stays_here}
use Rattle.ds_sim.proofs.sim.Sim.make_due.Goals as goal

pub each-init : goal.each-init
each-init c = stays_here (state_of c.args.self.now)

pub each-preserved : goal.each-preserved
each-preserved c = stays-after (state_of c.args.self.now) (state_of c.each.self) (state_of c.make_next.new.self) c.each.invariant c.make_next.ensures.stays

pub returns-in_err-make_next-clause-stays : goal.returns-in_err-make_next-clause-stays
returns-in_err-make_next-clause-stays c = stays-after (state_of c.args.self.now) (state_of c.each.self) (state_of c.make_next.new.self) c.each.invariant c.make_next.ensures.stays
