use Rattle.ds_gather.proofs.Bodies.{bodies_joined}
use Rattle.ds_gather.proofs.laws.bodies_joined.Goals as goal

pub returns : goal.returns
returns c = bodies_joined
