use Rattle.ds_lineage.proofs.Walks.{Walked}
use Rattle.ds_lineage.proofs.lineage.Lineage.back.Given as goal

abbrev pub invariant-loop-step : goal.invariant-loop-step
invariant-loop-step l = Walked l.self l.key l.b l.step l.at
