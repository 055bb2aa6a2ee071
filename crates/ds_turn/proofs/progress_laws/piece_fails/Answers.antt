use Rattle.ds_turn.proofs.Deliveries.{piece_fails}
use Rattle.ds_turn.proofs.progress_laws.piece_fails.Goals as goal

pub returns : goal.returns
returns c = piece_fails
