use Rattle.ds_law.proofs.Standing.{stands-moved}
use Rattle.ds_law.proofs.laws.move_law.Goals as goal

pub returns : goal.returns
returns c = stands-moved
