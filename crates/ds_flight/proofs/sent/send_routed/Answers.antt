use Rattle.std.proofs.Common.{refl}
use Rattle.ds_iter.proofs.RowSteps.{on_err}
use Rattle.ds_rule.specs.declared.answer.Answer.TheVariants.{Done, Failed, Refused, Lost}
use Rattle.ds_flight.proofs.Outcomes.{done-ran, done-sent, failed-sent, less-done, lost-errs, lost-lessens, lost-oks, none-ran, refused-lessens, refused-oks, refused-ran, sent-as}
use Rattle.ds_flight.proofs.sent.send_routed.Goals as goal

pub returns-in_err-replies-clause-ran : goal.returns-in_err-replies-clause-ran
returns-in_err-replies-clause-ran g c = on_err _ _ (none-ran c.args.head.now c.args.left.now _ _ c.args.cache.now.entries c.args.attempts.now _ c.in_err-replies.ensures)

pub returns-in_err-take_in-in-Done-clause-ran : goal.returns-in_err-take_in-in-Done-clause-ran
returns-in_err-take_in-in-Done-clause-ran g c =
    on_err _ _ (done-ran c.args.head.now c.args.left.now _ _ c.args.cache.now.entries c.args.attempts.now c.args.flying c.in-Done.replies c.args.work.now.items c.requires.goes_on
    (sent-as c.args.head.now c.rest.result c.args.left.now _ _ c.args.flying c.in_ok-replies.field-0 (Done c.in-Done.replies) c.rest.ensures c.in-Done.is c.in_ok-replies.ensures))

pub returns-in_ok-take_in-in-Done-clause-sent : goal.returns-in_ok-take_in-in-Done-clause-sent
returns-in_ok-take_in-in-Done-clause-sent g c =
    done-sent c.args.head.now c.args.left.now _ _ _ c.args.cache.now.entries c.args.attempts.now c.args.flying c.args.work.now.items c.args.gather.now _ c.in-Done.replies
    c.requires.goes_on c.in_ok-take_in-in-Done.ensures.left c.in_ok-take_in-in-Done.ensures.got
    (sent-as c.args.head.now c.rest.result c.args.left.now _ _ c.args.flying c.in_ok-replies.field-0 (Done c.in-Done.replies) c.rest.ensures c.in-Done.is c.in_ok-replies.ensures)

pub returns-in_ok-take_in-in-Done-clause-less : goal.returns-in_ok-take_in-in-Done-clause-less
returns-in_ok-take_in-in-Done-clause-less g c = less-done c.args.attempts.now c.args.flying c.args.work.now.items c.requires.ready

pub returns-in-Failed-clause-sent : goal.returns-in-Failed-clause-sent
returns-in-Failed-clause-sent g c =
    failed-sent c.args.head.now c.args.left.now _ _ c.args.cache.now.entries c.args.attempts.now c.args.flying c.args.work.now.items c.args.work.now.items c.args.gather.now c.in-Failed.failure
    c.requires.goes_on
    (sent-as c.args.head.now c.rest.result c.args.left.now _ _ c.args.flying c.in_ok-replies.field-0 (Failed c.in-Failed.failure) c.rest.ensures c.in-Failed.is c.in_ok-replies.ensures)

pub returns-in-Refused-clause-sent : goal.returns-in-Refused-clause-sent
returns-in-Refused-clause-sent g c =
    refused-oks c.args.head.now c.rest.result c.args.left.now _ _ c.args.cache.now c.turn_away.new.cache c.args.attempts.now c.turn_away.new.attempts c.args.flying c.args.at c.args.work.now.items c.turn_away.new.work.items c.args.gather.now c.in-Refused.refusal c.turn_away.result
    c.requires.goes_on c.rest.ensures c.turn_away.ensures.counts c.turn_away.ensures.learns
    (sent-as c.args.head.now c.rest.result c.rest.result _ _ c.args.flying c.in_ok-replies.field-0 (Refused c.in-Refused.refusal) refl c.in-Refused.is c.in_ok-replies.ensures)
    c.turn_away.ensures.turned c.turn_away.ensures.goes_on

pub returns-in-Refused-clause-less : goal.returns-in-Refused-clause-less
returns-in-Refused-clause-less g c =
    refused-lessens c.args.head.now c.rest.result c.args.attempts.now c.turn_away.new.attempts c.args.flying c.args.at c.args.cache.now c.turn_away.new.cache c.args.work.now.items c.turn_away.new.work.items c.in-Refused.refusal c.turn_away.result
    c.requires.goes_on c.turn_away.ensures.counts c.turn_away.ensures.turned

pub returns-in-Refused-clause-ran : goal.returns-in-Refused-clause-ran
returns-in-Refused-clause-ran g c =
    on_err _ _ (refused-ran c.args.head.now c.args.left.now _ _ c.args.cache.now c.turn_away.new.cache c.args.attempts.now c.turn_away.new.attempts c.args.flying c.args.work.now.items c.in-Refused.refusal
    c.requires.goes_on c.turn_away.ensures.counts c.turn_away.ensures.learns
    (sent-as c.args.head.now c.rest.result c.args.left.now _ _ c.args.flying c.in_ok-replies.field-0 (Refused c.in-Refused.refusal) c.rest.ensures c.in-Refused.is c.in_ok-replies.ensures))

pub returns-in-Lost-clause-sent : goal.returns-in-Lost-clause-sent
returns-in-Lost-clause-sent g c =
    lost-oks c.args.head.now c.rest.result c.args.left.now _ _ c.args.cache.now.entries c.args.attempts.now c.after_lost.new.attempts c.args.flying c.args.at c.args.work.now.items c.after_lost.new.work.items c.args.gather.now c.is_risky-risky.result c.after_lost.result
    c.rest.ensures c.requires.goes_on c.is_risky-risky.ensures c.after_lost.ensures.counts
    (sent-as c.args.head.now c.rest.result c.rest.result _ _ c.args.flying c.in_ok-replies.field-0 Lost refl c.in-Lost.is c.in_ok-replies.ensures)
    c.after_lost.ensures.sent c.after_lost.ensures.work c.after_lost.ensures.goes_on

pub returns-in-Lost-clause-less : goal.returns-in-Lost-clause-less
returns-in-Lost-clause-less g c =
    lost-lessens c.args.head.now c.rest.result c.args.attempts.now c.after_lost.new.attempts c.args.flying c.args.at c.args.work.now.items c.after_lost.new.work.items c.is_risky-risky.result c.after_lost.result
    c.requires.goes_on c.after_lost.ensures.counts c.after_lost.ensures.work

pub returns-in-Lost-clause-ran : goal.returns-in-Lost-clause-ran
returns-in-Lost-clause-ran g c =
    lost-errs c.args.head.now c.rest.result c.args.left.now _ _ c.args.cache.now.entries c.args.attempts.now c.after_lost.new.attempts c.args.flying c.args.work.now.items c.is_risky-risky.result c.after_lost.result
    c.requires.goes_on c.after_lost.ensures.again c.rest.ensures c.is_risky-risky.ensures c.after_lost.ensures.counts
    (sent-as c.args.head.now c.rest.result c.rest.result _ _ c.args.flying c.in_ok-replies.field-0 Lost refl c.in-Lost.is c.in_ok-replies.ensures)
