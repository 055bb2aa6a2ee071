use Rattle.ds_cover.proofs.Limiting.{taken-covers}
use Rattle.ds_cover.proofs.blocks.taken_covers.Goals as goal

pub returns : goal.returns
returns c = taken-covers
