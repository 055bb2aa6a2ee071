use Rattle.std.proofs.Common.{refl, rules, inl, inr}
use Rattle.distsend.proofs.answer.tell.Goals as goal

pub returns-in-Ok : goal.returns-in-Ok
returns-in-Ok g c = inl (refl, (search rules, search rules))

pub returns-in-Err : goal.returns-in-Err
returns-in-Err g c = inr (refl, search rules, (search rules, search rules))
