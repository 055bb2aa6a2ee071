use Rattle.ds_mean.proofs.SendLaw.{send_law}
use Rattle.ds_mean.proofs.laws.send_law.Goals as goal

pub returns : goal.returns
returns c = send_law
