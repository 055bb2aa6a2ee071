use Rattle.ds_gather.proofs.KeyOrder.{rows-in-order}
use Rattle.ds_gather.proofs.laws.rows_in_order.Goals as goal

pub returns : goal.returns
returns c = rows-in-order
