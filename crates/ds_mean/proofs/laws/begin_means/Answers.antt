use Rattle.ds_mean.proofs.Lifetimes.{begin_means}
use Rattle.ds_mean.proofs.laws.begin_means.Goals as goal

pub returns : goal.returns
returns c = begin_means
