use Rattle.ds_turn.proofs.Replies.{gathered_asks}
use Rattle.ds_turn.proofs.reply_laws.gathered_asks.Goals as goal

pub returns : goal.returns
returns c = gathered_asks
