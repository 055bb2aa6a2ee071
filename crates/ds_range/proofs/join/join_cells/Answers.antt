use Rattle.std.proofs.Common.{rules}
use Rattle.ds_range.proofs.Joining.{apart_left, apart_right, joined_left, joined_right}
use Rattle.ds_range.proofs.join.join_cells.Goals as goal

pub move_cells-requires : goal.move_cells-requires
move_cells-requires c = apart_left c.args.left.now.entries c.args.right.now.entries c.requires

pub move_cells-requires-2 : goal.move_cells-requires-2
move_cells-requires-2 c = apart_right c.args.left.now.entries c.args.right.now.entries c.requires

pub returns-then-len-clause-ok : goal.returns-then-len-clause-ok
returns-then-len-clause-ok c =
    search (rules, joined_left c.args.left.now.entries c.args.right.now.entries c.move_cells.new.to.entries c.requires c.in_ok-move_cells.ensures.ordered c.in_ok-move_cells.ensures.ok)

pub returns-clause-ok : goal.returns-clause-ok
returns-clause-ok c = joined_right c.args.left.now.entries c.args.right.now.entries c.move_cells-2.new.to.entries c.requires c.in_ok-move_cells-2.ensures.ordered c.in_ok-move_cells-2.ensures.ok
