use Rattle.ds_turn.proofs.Progress.{batch_refused}
use Rattle.ds_turn.proofs.progress_laws.batch_refused.Goals as goal

pub returns : goal.returns
returns c = batch_refused
