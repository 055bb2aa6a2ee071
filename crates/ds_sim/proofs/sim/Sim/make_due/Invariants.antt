use Rattle.std.proofs.Common.{length}
use Rattle.ds_rule.specs.Clauses.{Stays}
use Rattle.ds_sim.specs.State.{state_of}
use Rattle.ds_sim.proofs.sim.Sim.make_due.Given as goal

-- only moves so far
abbrev pub invariant-each : goal.invariant-each
invariant-each l = Stays (state_of l.fn.self) (state_of l.self)

abbrev pub decreases-each : goal.decreases-each
decreases-each l = length l.self.block.coming
