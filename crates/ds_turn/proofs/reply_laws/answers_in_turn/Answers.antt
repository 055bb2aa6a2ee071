use Rattle.ds_turn.proofs.Replies.{answers_in_turn}
use Rattle.ds_turn.proofs.reply_laws.answers_in_turn.Goals as goal

pub returns : goal.returns
returns c = answers_in_turn
