use Rattle.ds_turn.proofs.Deliveries.{piece_goes}
use Rattle.ds_turn.proofs.progress_laws.piece_goes.Goals as goal

pub returns : goal.returns
returns c = piece_goes
