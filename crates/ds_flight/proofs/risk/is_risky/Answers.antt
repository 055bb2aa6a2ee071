use Rattle.ds_flight.proofs.Risks.{risky_none, risky_some}
use Rattle.ds_flight.proofs.risk.is_risky.Goals as goal

pub returns-in-Some : goal.returns-in-Some
returns-in-Some c = risky_some c.args.piece.now c.in-Some.field-0 c.any_commit.result c.in-Some.is c.any_commit.ensures

pub returns-in-None : goal.returns-in-None
returns-in-None c = risky_none c.args.piece.now c.any_unrepeatable.result c.in-None.is c.any_unrepeatable.ensures
