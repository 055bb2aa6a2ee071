use Rattle.std.proofs.Common.{length, ◌-◌}
use Rattle.ds_flight.specs.Searches.{course}
use Rattle.ds_send.proofs.Flying.{Keeps}
use Rattle.ds_send.proofs.parts.fly_parts.Given as goal

abbrev pub invariant-parts : goal.invariant-parts
invariant-parts g l = Keeps l.head l.rule.whole l.all l.i (course (g.W.Wire.state l.fn.wire) l.fn.cache.entries l.fn.attempts) (course (g.W.Wire.state l.wire) l.cache.entries l.attempts) l.replies

abbrev pub decreases-parts : goal.decreases-parts
decreases-parts g l = length l.all - l.i
