use Rattle.std.proofs.Common.{refl}
use Rattle.ds_cut.proofs.seek.nearest.Goals as goal

pub items-init : goal.items-init
items-init c = record { near = refl; found = tt; proper = c.requires }
