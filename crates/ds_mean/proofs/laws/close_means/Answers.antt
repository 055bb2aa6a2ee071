use Rattle.ds_mean.proofs.Lifetimes.{close_means}
use Rattle.ds_mean.proofs.laws.close_means.Goals as goal

pub returns : goal.returns
returns c = close_means
