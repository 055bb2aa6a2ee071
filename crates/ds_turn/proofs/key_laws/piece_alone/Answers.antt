use Rattle.ds_turn.proofs.Settled.{piece_alone}
use Rattle.ds_turn.proofs.key_laws.piece_alone.Goals as goal

pub returns : goal.returns
returns c = piece_alone
