use Rattle.ds_mean.proofs.Covering.{turns_alike}
use Rattle.ds_mean.proofs.cover_laws.turns_alike.Goals as goal

pub returns : goal.returns
returns c = turns_alike
