use Rattle.ds_mean.proofs.Covering.{blocks_left}
use Rattle.ds_mean.proofs.cover_laws.blocks_left.Goals as goal

pub returns : goal.returns
returns c = blocks_left
