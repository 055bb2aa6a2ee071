use Rattle.ds_turn.proofs.Again.{partway_acts}
use Rattle.ds_turn.proofs.middle_laws.partway_acts.Goals as goal

pub returns : goal.returns
returns c = partway_acts
