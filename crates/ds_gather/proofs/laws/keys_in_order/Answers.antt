use Rattle.ds_gather.proofs.KeyOrder.{keys-in-order}
use Rattle.ds_gather.proofs.laws.keys_in_order.Goals as goal

pub returns : goal.returns
returns c = keys-in-order
