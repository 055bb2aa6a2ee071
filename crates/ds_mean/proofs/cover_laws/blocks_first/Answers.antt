use Rattle.ds_mean.proofs.Covering.{blocks_first}
use Rattle.ds_mean.proofs.cover_laws.blocks_first.Goals as goal

pub returns : goal.returns
returns c = blocks_first
