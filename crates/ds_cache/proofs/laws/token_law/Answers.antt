use Rattle.ds_cache.proofs.LawFacts.{token_law}
use Rattle.ds_cache.proofs.laws.token_law.Goals as goal

pub returns : goal.returns
returns c = token_law
