use Rattle.ds_cover.proofs.Rising.{parts-rise}
use Rattle.ds_cover.proofs.blocks.parts_rise.Goals as goal

pub returns : goal.returns
returns c = parts-rise
