use Rattle.ds_coord.proofs.Following.{refusals_agree}
use Rattle.ds_coord.proofs.laws.refusals_agree.Goals as goal

pub returns : goal.returns
returns c = refusals_agree
