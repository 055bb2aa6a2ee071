use Rattle.ds_cover.proofs.Moving.{all-covered}
use Rattle.ds_cover.proofs.blocks.all_in_order.Goals as goal

pub returns : goal.returns
returns c = all-covered
