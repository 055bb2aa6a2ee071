use Rattle.ds_mean.proofs.Covering.{parts_in_turn}
use Rattle.ds_mean.proofs.cover_laws.parts_in_turn.Goals as goal

pub returns : goal.returns
returns c = parts_in_turn
