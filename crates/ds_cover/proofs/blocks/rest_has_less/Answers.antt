use Rattle.ds_cover.proofs.Lessening.{rest-less}
use Rattle.ds_cover.proofs.blocks.rest_has_less.Goals as goal

pub returns : goal.returns
returns c = rest-less
