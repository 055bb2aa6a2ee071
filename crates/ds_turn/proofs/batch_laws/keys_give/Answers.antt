use Rattle.ds_turn.proofs.Keys.{keys_give}
use Rattle.ds_turn.proofs.batch_laws.keys_give.Goals as goal

pub returns : goal.returns
returns c = keys_give
