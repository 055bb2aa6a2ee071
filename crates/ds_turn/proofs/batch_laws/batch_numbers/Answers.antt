use Rattle.ds_turn.proofs.Parts.{batch_numbers}
use Rattle.ds_turn.proofs.batch_laws.batch_numbers.Goals as goal

pub returns : goal.returns
returns c = batch_numbers
