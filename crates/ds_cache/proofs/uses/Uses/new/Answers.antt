use Rattle.ds_cache.proofs.Ranked.{ranked_none}
use Rattle.ds_cache.proofs.uses.Uses.new.Goals as goal

pub returns : goal.returns
returns c = ranked_none _ _
