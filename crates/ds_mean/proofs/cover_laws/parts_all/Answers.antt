use Rattle.ds_mean.proofs.Covering.{parts_all}
use Rattle.ds_mean.proofs.cover_laws.parts_all.Goals as goal

pub returns : goal.returns
returns c = parts_all
