use Rattle.ds_turn.proofs.Progress.{batch_goes}
use Rattle.ds_turn.proofs.progress_laws.batch_goes.Goals as goal

pub returns : goal.returns
returns c = batch_goes
