use Rattle.ds_world.proofs.Apart.{lease_lease, lease_stale}
use Rattle.ds_world.proofs.Locals.{lease_move, lease_split}
use Rattle.ds_world.proofs.laws.beside_laws.Goals as goal

pub returns-clause-leases : goal.returns-clause-leases
returns-clause-leases c = λ q n w apart. lease_lease c.args.key.now q c.args.node n w apart

pub returns-clause-stale : goal.returns-clause-stale
returns-clause-stale c = λ q back w. lease_stale c.args.key.now q c.args.node back w

pub returns-clause-splits : goal.returns-clause-splits
returns-clause-splits c = λ q w apart. lease_split c.args.key.now q c.args.node w apart

pub returns-clause-moves : goal.returns-clause-moves
returns-clause-moves c = λ q ns w apart. lease_move c.args.key.now q ns c.args.node w apart
