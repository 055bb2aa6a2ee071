use Rattle.ds_world.proofs.Events.{abort-keeps, begin-keeps}
use Rattle.ds_world.proofs.laws.record_laws.Goals as goal

pub returns-clause-begin : goal.returns-clause-begin
returns-clause-begin c = λ t w h. begin-keeps t w h

pub returns-clause-abort : goal.returns-clause-abort
returns-clause-abort c = λ w h. abort-keeps w h
