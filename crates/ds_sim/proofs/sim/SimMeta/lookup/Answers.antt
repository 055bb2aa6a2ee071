use Rattle.ds_sim.specs.State.{state_of}
use Rattle.ds_sim.proofs.Making.{looks-after}
use Rattle.ds_sim.proofs.sim.SimMeta.lookup.Goals as goal

pub returns-clause-looked : goal.returns-clause-looked
returns-clause-looked c =
    looks-after (state_of c.args.self.now) (state_of c.make_due.new.self) (state_of c.look_now.new.self) c.args.key.now c.args.dir c.look_now.result c.make_due.ensures.stays c.look_now.ensures.looked
