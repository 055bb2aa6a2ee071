use Rattle.ds_coord.proofs.Following.{batch_agrees}
use Rattle.ds_coord.proofs.laws.batch_agrees.Goals as goal

pub returns : goal.returns
returns c = batch_agrees
