use Rattle.ds_world.proofs.Shifted.{stale_keeps, stale_rest}
use Rattle.ds_world.proofs.Commutes.{stale_beside}
use Rattle.ds_world.proofs.laws.stale_laws.Goals as goal

pub returns-clause-keeps : goal.returns-clause-keeps
returns-clause-keeps c = λ w h. stale_keeps c.args.key.now c.args.back w h

pub returns-clause-rest : goal.returns-clause-rest
returns-clause-rest c = λ w. stale_rest c.args.key.now c.args.back w

pub returns-clause-beside : goal.returns-clause-beside
returns-clause-beside c = λ w q v h. stale_beside c.args.key.now c.args.back q v w
