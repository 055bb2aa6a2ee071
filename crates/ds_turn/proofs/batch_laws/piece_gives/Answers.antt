use Rattle.ds_turn.proofs.OnePiece.{piece_gives}
use Rattle.ds_turn.proofs.batch_laws.piece_gives.Goals as goal

pub returns : goal.returns
returns c = piece_gives
