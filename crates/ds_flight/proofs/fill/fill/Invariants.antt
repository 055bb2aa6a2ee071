use Rattle.std.proofs.Common.{◌+◌}
use Rattle.ds_flight.specs.Fills.{to_route, tries_left}
use Rattle.ds_flight.specs.Searches.{course}
use Rattle.ds_flight.proofs.Rests.{SoFar}
use Rattle.ds_flight.proofs.fill.fill.Given as goal

abbrev pub invariant-rests : goal.invariant-rests
invariant-rests g l = SoFar l.most l.dir l.rule.whole (course (g.W.Wire.state l.fn.wire) l.fn.cache.entries l.fn.attempts) (course (g.W.Wire.state l.wire) l.cache.entries l.attempts) l.fn.work.items l.work.items

-- each round loses a try or routes something
abbrev pub decreases-rests : goal.decreases-rests
decreases-rests g l = tries_left l.attempts + to_route l.work.items
