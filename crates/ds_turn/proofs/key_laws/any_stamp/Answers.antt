use Rattle.ds_turn.proofs.KeyFacts.{any_stamp}
use Rattle.ds_turn.proofs.key_laws.any_stamp.Goals as goal

pub returns : goal.returns
returns c = any_stamp
