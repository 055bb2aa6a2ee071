use Rattle.ds_turn.proofs.Progress.{cuts_go_on}
use Rattle.ds_turn.proofs.progress_laws.cuts_go_on.Goals as goal

pub returns : goal.returns
returns c = cuts_go_on
