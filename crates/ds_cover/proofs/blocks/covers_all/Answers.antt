use Rattle.ds_cover.proofs.Sharing.{covers-all}
use Rattle.ds_cover.proofs.blocks.covers_all.Goals as goal

pub returns : goal.returns
returns c = covers-all
