use Rattle.ds_turn.proofs.Progress.{batch_stays}
use Rattle.ds_turn.proofs.progress_laws.batch_stays.Goals as goal

pub returns : goal.returns
returns c = batch_stays
