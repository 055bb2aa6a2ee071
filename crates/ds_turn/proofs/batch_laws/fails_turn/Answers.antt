use Rattle.ds_turn.proofs.Failing.{fails_turn}
use Rattle.ds_turn.proofs.batch_laws.fails_turn.Goals as goal

pub returns : goal.returns
returns c = fails_turn
