use Rattle.ds_cover.proofs.Proper.{spans-proper}
use Rattle.ds_cover.proofs.blocks.spans_proper.Goals as goal

pub returns : goal.returns
returns c = spans-proper
