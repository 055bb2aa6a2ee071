use Rattle.ds_turn.proofs.TooOld.{fails_old}
use Rattle.ds_turn.proofs.key_laws.fails_old.Goals as goal

pub returns : goal.returns
returns c = fails_old
