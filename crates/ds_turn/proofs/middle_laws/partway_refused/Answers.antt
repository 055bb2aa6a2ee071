use Rattle.ds_turn.proofs.Refusing.{partway_refused}
use Rattle.ds_turn.proofs.middle_laws.partway_refused.Goals as goal

pub returns : goal.returns
returns c = partway_refused
