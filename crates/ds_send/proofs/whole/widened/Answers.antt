use Rattle.std.proofs.Common.{refl}
use Rattle.ds_send.proofs.whole.widened.Goals as goal

pub loop-item-init : goal.loop-item-init
loop-item-init c = record { span = refl; proper = c.requires }
