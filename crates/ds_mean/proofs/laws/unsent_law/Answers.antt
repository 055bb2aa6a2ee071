use Rattle.ds_mean.proofs.Unsent.{unsent_law}
use Rattle.ds_mean.proofs.laws.unsent_law.Goals as goal

pub returns : goal.returns
returns c = unsent_law
