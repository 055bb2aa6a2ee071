use Rattle.ds_cover.proofs.InOrder.{same-order}
use Rattle.ds_cover.proofs.chains.orders_the_same.Goals as goal
use Rattle.ds_cover.specs.Arrivals.{span_at}
use Rattle.ds_cover.specs.Chains.{starts}

pub returns : goal.returns
returns c = same-order (starts span_at)
