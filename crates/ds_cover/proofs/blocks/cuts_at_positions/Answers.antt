use Rattle.ds_cover.proofs.Tracing.{cut-at-position}
use Rattle.ds_cover.proofs.blocks.cuts_at_positions.Goals as goal

pub returns : goal.returns
returns c = cut-at-position
