use Rattle.ds_turn.proofs.KeyFacts.{from_today}
use Rattle.ds_turn.proofs.key_laws.from_today.Goals as goal

pub returns : goal.returns
returns c = from_today
