use Rattle.ds_world.proofs.Settled.{closed-keeps}
use Rattle.ds_world.proofs.laws.close_laws.Goals as goal

pub returns-clause-keeps : goal.returns-clause-keeps
returns-clause-keeps c = closed-keeps
