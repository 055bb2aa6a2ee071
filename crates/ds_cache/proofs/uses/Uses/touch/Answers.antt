use Rattle.std.proofs.Common.{refl}
use Rattle.ds_cache.proofs.Ranked.{ranked_front}
use Rattle.ds_cache.proofs.uses.Uses.touch.Goals as goal

pub returns : goal.returns
returns c = λ es i w d there h. ranked_front c.args.serial _ _ i w _ _ es c.note.ensures refl d there h
