use Rattle.ds_cover.proofs.Moving.{drops-empty}
use Rattle.ds_cover.proofs.blocks.drops_empty.Goals as goal

pub returns : goal.returns
returns c = drops-empty
