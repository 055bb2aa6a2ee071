use Rattle.ds_turn.proofs.Progress.{batch_begins}
use Rattle.ds_turn.proofs.progress_laws.batch_begins.Goals as goal

pub returns : goal.returns
returns c = batch_begins
