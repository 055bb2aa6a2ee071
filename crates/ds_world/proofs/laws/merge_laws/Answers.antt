use Rattle.std.proofs.Common.{refl}
use Rattle.ds_world.proofs.Shifted.{merge_keeps, merge_holds}
use Rattle.ds_world.proofs.Commutes.{merge_beside}
use Rattle.ds_world.proofs.laws.merge_laws.Goals as goal

pub returns-clause-keeps : goal.returns-clause-keeps
returns-clause-keeps c = λ w h. merge_keeps c.args.key.now w h

pub returns-clause-contents : goal.returns-clause-contents
returns-clause-contents c = λ w h. merge_holds c.args.key.now w h

pub returns-clause-beside : goal.returns-clause-beside
returns-clause-beside c = λ w q v h. merge_beside c.args.key.now q v w h

pub returns-clause-rest : goal.returns-clause-rest
returns-clause-rest c = λ w. refl

pub returns-clause-descs : goal.returns-clause-descs
returns-clause-descs c = λ w. (_, refl)
