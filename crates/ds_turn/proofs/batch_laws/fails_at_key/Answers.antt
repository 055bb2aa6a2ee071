use Rattle.ds_turn.proofs.Keys.{fails_at_key}
use Rattle.ds_turn.proofs.batch_laws.fails_at_key.Goals as goal

pub returns : goal.returns
returns c = fails_at_key
