use Rattle.ds_turn.proofs.Parts.{cut_deed}
use Rattle.ds_turn.proofs.batch_laws.cut_deed.Goals as goal

pub returns : goal.returns
returns c = cut_deed
