use Rattle.ds_mean.proofs.Lifetimes.{first_means}
use Rattle.ds_mean.proofs.laws.first_means.Goals as goal

pub returns : goal.returns
returns c = first_means
