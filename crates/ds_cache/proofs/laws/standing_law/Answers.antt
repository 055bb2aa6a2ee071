use Rattle.ds_cache.proofs.LawFacts.{standing_law}
use Rattle.ds_cache.proofs.laws.standing_law.Goals as goal

pub returns : goal.returns
returns c = standing_law
