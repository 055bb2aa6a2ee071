use Rattle.ds_turn.proofs.Courses.{same_course}
use Rattle.ds_turn.proofs.key_laws.same_course.Goals as goal

pub returns : goal.returns
returns c = same_course
