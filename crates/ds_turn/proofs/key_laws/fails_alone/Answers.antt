use Rattle.ds_turn.proofs.Courses.{fails_alone}
use Rattle.ds_turn.proofs.key_laws.fails_alone.Goals as goal

pub returns : goal.returns
returns c = fails_alone
