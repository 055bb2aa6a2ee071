use Rattle.ds_cell.proofs.LatestFacts.{latest_write, latest_version, newest_is}
use Rattle.ds_cell.proofs.cell.Cell.known.Goals as goal

pub returns-clause-write : goal.returns-clause-write
returns-clause-write c =
    latest_write c.args.at c.args.at.seq.0 c.args.self.now (rw c.self.view_is at c.self.invariant)

pub returns-clause-version : goal.returns-clause-version
returns-clause-version c =
    latest_version c.args.at.stamp.0 c.args.self.now (rw c.self.view_is at c.self.invariant)

pub returns-clause-in_the_way : goal.returns-clause-in_the_way
returns-clause-in_the_way c =
    newest_is c.args.at.stamp.0 c.args.self.now (rw c.self.view_is at c.self.invariant)
