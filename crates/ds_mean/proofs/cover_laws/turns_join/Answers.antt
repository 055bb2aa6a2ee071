use Rattle.ds_mean.proofs.Covering.{turns_join}
use Rattle.ds_mean.proofs.cover_laws.turns_join.Goals as goal

pub returns : goal.returns
returns c = turns_join
