use Rattle.ds_legal.proofs.LegalFacts.{legal_of}
use Rattle.ds_legal.proofs.legal.Legal.batch.Goals as goal

pub returns-clause-legal : goal.returns-clause-legal
returns-clause-legal c = rw (← c.self.view_is) (legal_of _ c.self.invariant)
