use Rattle.ds_coord.proofs.Following.{begin_agrees}
use Rattle.ds_coord.proofs.laws.begin_agrees.Goals as goal

pub returns : goal.returns
returns c = begin_agrees
