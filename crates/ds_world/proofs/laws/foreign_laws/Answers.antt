use Rattle.std.proofs.Common.{refl}
use Rattle.ds_world.proofs.Foreign.{foreign-keeps, foreign-contents, foreign-nowhere}
use Rattle.ds_world.proofs.laws.foreign_laws.Goals as goal

pub returns-clause-keeps : goal.returns-clause-keeps
returns-clause-keeps c = λ v w h. foreign-keeps c.args.key.now v w h

pub returns-clause-contents : goal.returns-clause-contents
returns-clause-contents c = λ w v h low. foreign-contents c.args.key.now v w h low

pub returns-clause-nowhere : goal.returns-clause-nowhere
returns-clause-nowhere c = λ w v h high. foreign-nowhere c.args.key.now v w h high

pub returns-clause-descs : goal.returns-clause-descs
returns-clause-descs c = λ v w. refl

pub returns-clause-rest : goal.returns-clause-rest
returns-clause-rest c = λ v w. refl
