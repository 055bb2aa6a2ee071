use Rattle.std.proofs.Common.{refl}
use Rattle.ds_world.proofs.Shifted.{split_keeps, split_holds}
use Rattle.ds_world.proofs.Commutes.{split_beside}
use Rattle.ds_world.proofs.laws.split_laws.Goals as goal

pub returns-clause-keeps : goal.returns-clause-keeps
returns-clause-keeps c = λ w h. split_keeps c.args.key.now w h

pub returns-clause-contents : goal.returns-clause-contents
returns-clause-contents c = λ w h. split_holds c.args.key.now w h

pub returns-clause-beside : goal.returns-clause-beside
returns-clause-beside c = λ w q v h. split_beside c.args.key.now q v w h

pub returns-clause-rest : goal.returns-clause-rest
returns-clause-rest c = λ w. refl

pub returns-clause-descs : goal.returns-clause-descs
returns-clause-descs c = λ w. (_, refl)
