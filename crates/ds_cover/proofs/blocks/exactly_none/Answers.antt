use Rattle.ds_cover.proofs.Exact.{none-out, out-none}
use Rattle.ds_cover.proofs.blocks.exactly_none.Goals as goal

pub returns : goal.returns
returns c span items = (none-out span items, out-none span items)
