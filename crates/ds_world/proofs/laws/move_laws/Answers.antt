use Rattle.std.proofs.Common.{refl}
use Rattle.ds_world.proofs.Shifted.{move_keeps, move_holds}
use Rattle.ds_world.proofs.Commutes.{move_beside}
use Rattle.ds_world.proofs.laws.move_laws.Goals as goal

pub returns-clause-keeps : goal.returns-clause-keeps
returns-clause-keeps c = λ w h. move_keeps c.args.key.now c.args.nodes.now w c.len.ensures.replicas h

pub returns-clause-contents : goal.returns-clause-contents
returns-clause-contents c = λ w h. move_holds c.args.key.now c.args.nodes.now w c.len.ensures.replicas h

pub returns-clause-beside : goal.returns-clause-beside
returns-clause-beside c = λ w q v h. move_beside c.args.key.now c.args.nodes.now q v w c.len.ensures.replicas h

pub returns-clause-rest : goal.returns-clause-rest
returns-clause-rest c = λ w. refl

pub returns-clause-descs : goal.returns-clause-descs
returns-clause-descs c = λ w. (_, refl)
