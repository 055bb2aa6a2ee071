use Rattle.ds_cache.proofs.LawFacts.{kept_law}
use Rattle.ds_cache.proofs.laws.kept_law.Goals as goal

pub returns : goal.returns
returns c = kept_law
