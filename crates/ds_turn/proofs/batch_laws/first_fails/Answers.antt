use Rattle.ds_turn.proofs.Keys.{first_fails}
use Rattle.ds_turn.proofs.batch_laws.first_fails.Goals as goal

pub returns : goal.returns
returns c = first_fails
