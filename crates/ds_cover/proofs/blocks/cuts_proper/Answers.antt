use Rattle.ds_cover.proofs.Proper.{cuts-proper}
use Rattle.ds_cover.proofs.blocks.cuts_proper.Goals as goal

pub returns : goal.returns
returns c = cuts-proper
