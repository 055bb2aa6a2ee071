use Rattle.ds_turn.proofs.Progress.{block_goes}
use Rattle.ds_turn.proofs.progress_laws.block_goes.Goals as goal

pub returns : goal.returns
returns c = block_goes
