use Rattle.ds_law.proofs.ReadLaw.{read_law as proved}
use Rattle.ds_law.proofs.laws.read_law.Goals as goal

pub returns : goal.returns
returns c = proved
