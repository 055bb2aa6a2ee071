use Rattle.ds_cover.proofs.Sharing.{stays-covered}
use Rattle.ds_cover.proofs.blocks.stays_covered.Goals as goal

pub returns : goal.returns
returns c = stays-covered
