use Rattle.ds_cache.proofs.Ranked.{ranked_without}
use Rattle.ds_cache.proofs.uses.Uses.end.Goals as goal

pub returns : goal.returns
returns c = λ es d h. ranked_without c.args.serial _ _ _ es c.forget.ensures d h
