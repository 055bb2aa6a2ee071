use Rattle.ds_turn.proofs.Settled.{settles_alike}
use Rattle.ds_turn.proofs.key_laws.settles_alike.Goals as goal

pub returns : goal.returns
returns c = settles_alike
