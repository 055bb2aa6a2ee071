use Rattle.ds_cell.proofs.LaterFacts.{beside_all}
use Rattle.ds_cell.proofs.request.laws.Goals as goal

pub returns-clause-beside : goal.returns-clause-beside
returns-clause-beside g c = beside_all g.K.Kind.reach g.K.Acts.ask c.args.args.now (g.met.K.Acts.repeat c.args.args.now)
