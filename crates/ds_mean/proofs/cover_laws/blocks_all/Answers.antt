use Rattle.ds_mean.proofs.Covering.{blocks_all}
use Rattle.ds_mean.proofs.cover_laws.blocks_all.Goals as goal

pub returns : goal.returns
returns c = blocks_all
