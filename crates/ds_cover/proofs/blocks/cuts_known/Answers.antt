use Rattle.ds_cover.proofs.Tracing.{its-item}
use Rattle.ds_cover.proofs.blocks.cuts_known.Goals as goal

pub returns : goal.returns
returns c = its-item
