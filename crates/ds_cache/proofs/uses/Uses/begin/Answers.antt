use Rattle.std.proofs.Common.{refl}
use Rattle.ds_cache.proofs.Ranked.{ranked_new, ranked_others}
use Rattle.ds_cache.proofs.uses.Uses.begin.Goals as goal

pub returns-clause-ok : goal.returns-clause-ok
returns-clause-ok c = λ es i none h. ranked_new c.args.serial _ _ i _ _ es c.in_ok-note_new.ensures.ok refl none h

pub returns-clause-others : goal.returns-clause-others
returns-clause-others c = λ es none h. ranked_others c.args.serial _ _ _ _ es c.in_ok-note_new.ensures.ok refl none h
