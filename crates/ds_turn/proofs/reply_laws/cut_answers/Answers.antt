use Rattle.ds_turn.proofs.Replies.{cut_answers}
use Rattle.ds_turn.proofs.reply_laws.cut_answers.Goals as goal

pub returns : goal.returns
returns c = cut_answers
