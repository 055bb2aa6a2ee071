use Rattle.ds_iter.proofs.RowSteps.{on_err}
use Rattle.ds_retry.specs.declared.outcome.PartOutcome.TheVariants as Outcome
use Rattle.ds_send.proofs.Flying.{began-as, done-began, flown-as, next-done}
use Rattle.ds_send.proofs.parts.fly_next.Goals as goal

pub returns-in_err-more-clause-began : goal.returns-in_err-more-clause-began
returns-in_err-more-clause-began g c = on_err _ _ (began-as _ c.new.result _ _ c.new.ensures c.in_err-more.ensures.began)

pub returns-in_err-append-in-Done-clause-began : goal.returns-in_err-append-in-Done-clause-began
returns-in_err-append-in-Done-clause-began g c = on_err _ _ (began-as _ c.new.result _ _ c.new.ensures (done-began _ c.new.result _ _ c.in-Done.more c.in-Done.left c.in_ok-more.field-0 c.in-Done.is c.in_ok-more.ensures.flown))

pub returns-in_ok-append-in-Done-clause-flown : goal.returns-in_ok-append-in-Done-clause-flown
returns-in_ok-append-in-Done-clause-flown g c =
    next-done _ c.new.result _ _ c.args.replies.now c.append.new.self c.in-Done.more c.in-Done.left c.in_ok-more.field-0 c.new.ensures c.in-Done.is c.in_ok-append-in-Done.ensures.ok c.in_ok-more.ensures.flown

pub returns-in-NotWhole-clause-flown : goal.returns-in-NotWhole-clause-flown
returns-in-NotWhole-clause-flown g c = (tt, flown-as _ c.new.result _ _ c.in_ok-more.field-0 (Outcome.NotWhole c.in-NotWhole.desc) c.new.ensures c.in-NotWhole.is c.in_ok-more.ensures.flown)

pub returns-in-Failed-clause-flown : goal.returns-in-Failed-clause-flown
returns-in-Failed-clause-flown g c = (tt, flown-as _ c.new.result _ _ c.in_ok-more.field-0 (Outcome.Failed c.in-Failed.failure) c.new.ensures c.in-Failed.is c.in_ok-more.ensures.flown)

pub returns-in-Ambiguous-clause-flown : goal.returns-in-Ambiguous-clause-flown
returns-in-Ambiguous-clause-flown g c = (tt, flown-as _ c.new.result _ _ c.in_ok-more.field-0 (Outcome.Ambiguous c.in-Ambiguous.lost) c.new.ensures c.in-Ambiguous.is c.in_ok-more.ensures.flown)

pub returns-in-Exhausted-clause-flown : goal.returns-in-Exhausted-clause-flown
returns-in-Exhausted-clause-flown g c = (tt, flown-as _ c.new.result _ _ c.in_ok-more.field-0 (Outcome.Exhausted c.in-Exhausted.refused c.in-Exhausted.lost) c.new.ensures c.in-Exhausted.is c.in_ok-more.ensures.flown)
