use Rattle.ds_turn.proofs.Progress.{progress_kept}
use Rattle.ds_turn.proofs.progress_laws.progress_kept.Goals as goal

pub returns : goal.returns
returns c = progress_kept
