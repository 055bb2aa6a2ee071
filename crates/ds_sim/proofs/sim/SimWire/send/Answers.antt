use Rattle.ds_sim.specs.State.{state_of}
use Rattle.ds_sim.proofs.Making.{sends-after}
use Rattle.ds_sim.proofs.sim.SimWire.send.Goals as goal

pub returns : goal.returns
returns c =
    sends-after (state_of c.args.self.now) (state_of c.make_due.new.self) (state_of c.send_now.new.self) c.args.node c.args.piece.now c.send_now.result c.make_due.ensures.stays c.send_now.ensures
