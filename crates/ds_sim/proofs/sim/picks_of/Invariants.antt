use Rattle.std.proofs.Common.{◌≡◌, take}
use Rattle.ds_sim.proofs.sim.picks_of.Given as goal

-- the picks so far were copied
abbrev pub invariant-each : goal.invariant-each
invariant-each l = l.copy.items ≡ take l.pick-index l.picks
