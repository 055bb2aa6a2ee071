use Rattle.ds_turn.proofs.Replies.{joins_answer}
use Rattle.ds_turn.proofs.reply_laws.joins_answer.Goals as goal

pub returns : goal.returns
returns c = joins_answer
