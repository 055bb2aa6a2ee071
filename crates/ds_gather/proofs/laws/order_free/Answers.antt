use Rattle.ds_gather.proofs.Orders.{order_free}
use Rattle.ds_gather.proofs.laws.order_free.Goals as goal

pub returns : goal.returns
returns c = order_free
