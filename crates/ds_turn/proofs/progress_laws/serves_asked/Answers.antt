use Rattle.ds_turn.proofs.Deliveries.{serves_asked}
use Rattle.ds_turn.proofs.progress_laws.serves_asked.Goals as goal

pub returns : goal.returns
returns c = serves_asked
