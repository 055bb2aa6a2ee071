use Rattle.ds_cover.proofs.Cutting.{cuts-covered}
use Rattle.ds_cover.proofs.blocks.cuts_covered.Goals as goal

pub returns : goal.returns
returns c = cuts-covered
