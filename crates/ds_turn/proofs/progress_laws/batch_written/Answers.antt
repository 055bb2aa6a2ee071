use Rattle.ds_turn.proofs.Progress.{batch_written}
use Rattle.ds_turn.proofs.progress_laws.batch_written.Goals as goal

pub returns : goal.returns
returns c = batch_written
