use Rattle.std.proofs.Common.{◌∙◌}
use Rattle.ds_range.proofs.Dividing.{below_is}
use Rattle.ds_range.proofs.shape.split_cells.Goals as goal

pub returns-clause-low : goal.returns-clause-low
returns-clause-low c = c.in_ok-high.ensures.below ∙ below_is c.args.key.now c.args.cells.now.entries
