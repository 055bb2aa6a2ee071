use Rattle.std.proofs.Common.{refl}
use Rattle.ds_world.proofs.Shifted.{lease_keeps, lease_holds, lease_descs}
use Rattle.ds_world.proofs.Commutes.{lease_beside}
use Rattle.ds_world.proofs.laws.lease_laws.Goals as goal

pub returns-clause-keeps : goal.returns-clause-keeps
returns-clause-keeps c = λ w h. lease_keeps c.args.key.now c.args.node w h

pub returns-clause-contents : goal.returns-clause-contents
returns-clause-contents c = λ w h. lease_holds c.args.key.now c.args.node w h

pub returns-clause-beside : goal.returns-clause-beside
returns-clause-beside c = λ w q v h. lease_beside c.args.key.now c.args.node q v w h

pub returns-clause-descs : goal.returns-clause-descs
returns-clause-descs c = λ w. lease_descs c.args.key.now c.args.node w

pub returns-clause-rest : goal.returns-clause-rest
returns-clause-rest c = λ w. refl
