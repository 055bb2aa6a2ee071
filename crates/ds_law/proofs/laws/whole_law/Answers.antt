use Rattle.ds_law.proofs.WholeLaw.{whole_law as proved}
use Rattle.ds_law.proofs.laws.whole_law.Goals as goal

pub returns : goal.returns
returns c = proved
