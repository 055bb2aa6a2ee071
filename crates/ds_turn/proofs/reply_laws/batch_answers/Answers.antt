use Rattle.ds_turn.proofs.Deliveries.{batch_answers}
use Rattle.ds_turn.proofs.reply_laws.batch_answers.Goals as goal

pub returns : goal.returns
returns c = batch_answers
