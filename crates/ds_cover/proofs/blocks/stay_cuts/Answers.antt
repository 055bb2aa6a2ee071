use Rattle.ds_cover.proofs.Tracing.{stay-cuts}
use Rattle.ds_cover.proofs.blocks.stay_cuts.Goals as goal

pub returns : goal.returns
returns c = stay-cuts
