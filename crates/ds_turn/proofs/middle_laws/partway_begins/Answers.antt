use Rattle.ds_turn.proofs.Again.{partway_begins}
use Rattle.ds_turn.proofs.middle_laws.partway_begins.Goals as goal

pub returns : goal.returns
returns c = partway_begins
