use Rattle.ds_turn.proofs.Keys.{gives_at_keys}
use Rattle.ds_turn.proofs.batch_laws.gives_at_keys.Goals as goal

pub returns : goal.returns
returns c = gives_at_keys
