use Rattle.ds_turn.proofs.Courses.{acts_alone}
use Rattle.ds_turn.proofs.key_laws.acts_alone.Goals as goal

pub returns : goal.returns
returns c = acts_alone
