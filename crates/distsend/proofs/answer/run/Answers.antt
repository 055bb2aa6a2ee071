use Rattle.distsend.proofs.Ways.{ends}
use Rattle.distsend.proofs.answer.run.Goals as goal

pub returns-clause-ends : goal.returns-clause-ends
returns-clause-ends g c = ends _ _ _ _ _ _ c.answer-status.ensures.answered c.tell.ensures
