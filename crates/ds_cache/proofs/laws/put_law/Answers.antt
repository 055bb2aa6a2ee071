use Rattle.ds_cache.proofs.LawFacts.{put_law}
use Rattle.ds_cache.proofs.laws.put_law.Goals as goal

pub returns : goal.returns
returns c = put_law
