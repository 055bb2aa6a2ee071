use Rattle.ds_cell.proofs.LaterFacts.{later_write, later_foreign}
use Rattle.ds_cell.proofs.request.unnoticed.Goals as goal

pub returns-clause-write : goal.returns-clause-write
returns-clause-write c = later_write c.args.at

pub returns-clause-foreign : goal.returns-clause-foreign
returns-clause-foreign c = later_foreign c.args.at
