use Rattle.ds_range.proofs.Covering.{all_keys_if}
use Rattle.ds_range.proofs.settle.to_settle.Goals as goal

pub returns-in-None : goal.returns-in-None
returns-in-None c = all_keys_if c.args.written c.args.cells.now.entries c.keys_of.result c.keys_of.ensures
