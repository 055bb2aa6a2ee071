use Rattle.std.proofs.Common.{Some}
use Rattle.ds_gather.proofs.Joining.{first_more}
use Rattle.ds_gather.proofs.place.first_reply.Goals as goal

pub arrivals-preserved : goal.arrivals-preserved
arrivals-preserved c = (
  first_more (λ a. Some a.reply.body) c.arrivals.yielded c.in-Some.arrival c.arrivals.body c.body_or-body.result c.arrivals.invariant.0 c.body_or-body.ensures,
  first_more (λ a. a.reply.resume) c.arrivals.yielded c.in-Some.arrival c.arrivals.resume c.first_of-resume.result c.arrivals.invariant.1 c.first_of-resume.ensures,
)
