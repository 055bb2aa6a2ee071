use Rattle.ds_coord.proofs.Following.{events_agree}
use Rattle.ds_coord.proofs.laws.events_agree.Goals as goal

pub returns : goal.returns
returns c = events_agree
