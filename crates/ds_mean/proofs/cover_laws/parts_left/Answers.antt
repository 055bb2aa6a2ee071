use Rattle.ds_mean.proofs.Covering.{parts_left}
use Rattle.ds_mean.proofs.cover_laws.parts_left.Goals as goal

pub returns : goal.returns
returns c = parts_left
