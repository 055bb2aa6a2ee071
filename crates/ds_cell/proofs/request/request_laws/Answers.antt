use Rattle.ds_cell.specs.BodyProofs.{bodies_join}
use Rattle.ds_cell.specs.KeyProofs.{by_key}
use Rattle.ds_cell.specs.RequestProofs.{laws_of, still_of}
use Rattle.ds_kind.specs.Request.{reach_of}
use Rattle.ds_cell.specs.Requests.{respond_to}
use Rattle.ds_cell.proofs.LaterFacts.{beside_all}
use Rattle.ds_cell.proofs.request.request_laws.Goals as goal

pub returns-clause-join : goal.returns-clause-join
returns-clause-join c = (laws_of c.args.request.now).1

pub returns-clause-point : goal.returns-clause-point
returns-clause-point c = (laws_of c.args.request.now).2

pub returns-clause-cuts : goal.returns-clause-cuts
returns-clause-cuts c = (laws_of c.args.request.now).3

pub returns-clause-repeat : goal.returns-clause-repeat
returns-clause-repeat c = (laws_of c.args.request.now).4

pub returns-clause-beside : goal.returns-clause-beside
returns-clause-beside c = beside_all reach_of respond_to c.args.request.now (laws_of c.args.request.now).4

pub returns-clause-reads : goal.returns-clause-reads
returns-clause-reads c = (laws_of c.args.request.now).5

pub returns-clause-stays : goal.returns-clause-stays
returns-clause-stays c = (laws_of c.args.request.now).6

pub returns-clause-flags : goal.returns-clause-flags
returns-clause-flags c = (laws_of c.args.request.now).7

pub returns-clause-bodies : goal.returns-clause-bodies
returns-clause-bodies c = bodies_join c.args.request.now

pub returns-clause-still : goal.returns-clause-still
returns-clause-still c = still_of c.args.request.now

pub returns-clause-keys : goal.returns-clause-keys
returns-clause-keys c = by_key c.args.request.now
