use Rattle.ds_turn.proofs.Again.{asked_again}
use Rattle.ds_turn.proofs.key_laws.asked_again.Goals as goal

pub returns : goal.returns
returns c = asked_again
