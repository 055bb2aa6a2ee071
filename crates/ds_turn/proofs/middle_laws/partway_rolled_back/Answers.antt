use Rattle.ds_turn.proofs.RolledBack.{partway_rolled_back}
use Rattle.ds_turn.proofs.middle_laws.partway_rolled_back.Goals as goal

pub returns : goal.returns
returns c = partway_rolled_back
