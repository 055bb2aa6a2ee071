use Rattle.ds_world.proofs.Events.{event-keeps}
use Rattle.ds_world.proofs.laws.event_laws.Goals as goal

pub returns : goal.returns
returns c = λ w h. event-keeps c.args.event.now w c.replicas_of.ensures h
