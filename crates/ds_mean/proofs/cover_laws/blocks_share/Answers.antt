use Rattle.ds_mean.proofs.Covering.{blocks_share}
use Rattle.ds_mean.proofs.cover_laws.blocks_share.Goals as goal

pub returns : goal.returns
returns c = blocks_share
