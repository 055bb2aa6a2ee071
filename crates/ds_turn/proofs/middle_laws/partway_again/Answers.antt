use Rattle.ds_turn.proofs.Again.{partway_again}
use Rattle.ds_turn.proofs.middle_laws.partway_again.Goals as goal

pub returns : goal.returns
returns c = partway_again
