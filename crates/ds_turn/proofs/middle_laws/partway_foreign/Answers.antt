use Rattle.ds_turn.proofs.Again.{partway_foreign}
use Rattle.ds_turn.proofs.middle_laws.partway_foreign.Goals as goal

pub returns : goal.returns
returns c = partway_foreign
