use Rattle.ds_mean.proofs.Covering.{blocks_in_turn}
use Rattle.ds_mean.proofs.cover_laws.blocks_in_turn.Goals as goal

pub returns : goal.returns
returns c = blocks_in_turn
