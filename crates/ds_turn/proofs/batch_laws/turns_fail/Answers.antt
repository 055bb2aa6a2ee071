use Rattle.ds_turn.proofs.Failing.{turns_fail}
use Rattle.ds_turn.proofs.batch_laws.turns_fail.Goals as goal

pub returns : goal.returns
returns c = turns_fail
