use Rattle.ds_turn.proofs.Deliveries.{piece_replies}
use Rattle.ds_turn.proofs.reply_laws.piece_replies.Goals as goal

pub returns : goal.returns
returns c = piece_replies
