use Rattle.ds_mean.proofs.Lifetimes.{moves_mean}
use Rattle.ds_mean.proofs.laws.moves_mean.Goals as goal

pub returns : goal.returns
returns c = moves_mean
