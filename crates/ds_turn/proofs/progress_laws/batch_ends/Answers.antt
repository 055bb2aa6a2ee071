use Rattle.ds_turn.proofs.Progress.{batch_ends}
use Rattle.ds_turn.proofs.progress_laws.batch_ends.Goals as goal

pub returns : goal.returns
returns c = batch_ends
