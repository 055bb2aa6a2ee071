use Rattle.ds_cache.proofs.LawFacts.{fresh_law}
use Rattle.ds_cache.proofs.laws.fresh_law.Goals as goal

pub returns : goal.returns
returns c = fresh_law
