use Rattle.ds_sim.specs.State.{state_of}
use Rattle.ds_sim.proofs.Ending.{Making}
use Rattle.ds_sim.proofs.sim.Sim.make_each.Given as goal

abbrev pub invariant-each : goal.invariant-each
invariant-each l = Making l.events l.timed-index (state_of l.fn.self) (state_of l.self)
