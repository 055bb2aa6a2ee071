use Rattle.ds_cover.proofs.Tracing.{cuts-of-all}
use Rattle.ds_cover.proofs.blocks.cuts_of_all.Goals as goal

pub returns : goal.returns
returns c = cuts-of-all
