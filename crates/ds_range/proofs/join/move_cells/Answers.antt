use Rattle.ds_range.proofs.Joining.{all_back}
use Rattle.ds_range.proofs.join.move_cells.Goals as goal

pub returns-in-Err-clause-err : goal.returns-in-Err-clause-err
returns-in-Err-clause-err c =
    all_back c.args.from.now.entries c.args.to.now.entries c.begin_each.new.to.entries c.end_each.new.to.entries c.ordered.ensures c.ordered-in-Err.ensures c.requires c.in-Err.ensures.beside c.end_each.ensures.apart c.end_each.ensures.beside
