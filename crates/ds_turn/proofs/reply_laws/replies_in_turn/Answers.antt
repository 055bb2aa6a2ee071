use Rattle.ds_turn.proofs.Deliveries.{replies_in_turn}
use Rattle.ds_turn.proofs.reply_laws.replies_in_turn.Goals as goal

pub returns : goal.returns
returns c = replies_in_turn
