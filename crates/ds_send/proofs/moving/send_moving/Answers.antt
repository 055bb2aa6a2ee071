use Rattle.std.proofs.Common.{ap, ◌∙◌}
use Rattle.ds_iter.proofs.RowSteps.{on_err}
use Rattle.ds_rule.specs.Whole.{must_be_whole, span_if}
use Rattle.ds_send.proofs.Calling.{broke-none, broke-so, flew-so}
use Rattle.ds_send.proofs.Moved.{answered-so, flyable-by}
use Rattle.ds_send.proofs.moving.send_moving.Goals as goal

pub fly_parts-requires-clause-flyable : goal.fly_parts-requires-clause-flyable
fly_parts-requires-clause-flyable g c =
    flyable-by c.args.asked.now c.args.parts.now (must_be_whole c.args.asked.now) c.in_ok-rule.rule.whole c.requires.movable
    (c.in_ok-rule.ensures ∙ ap (λ b. span_if b c.args.asked.now.items) c.must_be_whole.ensures)

pub returns-in_err-rule-clause-broke : goal.returns-in_err-rule-clause-broke
returns-in_err-rule-clause-broke g c = on_err _ _ (broke-none c.args.budget c.args.asked.now (g.W.Wire.state c.args.wire.now) c.args.cache.now.entries c.requires.some_tries)

pub returns-in_err-outcome-clause-broke : goal.returns-in_err-outcome-clause-broke
returns-in_err-outcome-clause-broke g c =
    on_err _ _
    (broke-so c.args.budget c.args.asked.now c.args.parts.now c.in_ok-rule.rule.whole c.asked.inside.head _ _ _ _ _ _ c.requires.movable
    (c.in_ok-rule.ensures ∙ ap (λ b. span_if b c.args.asked.now.items) c.must_be_whole.ensures) (ap (λ z. z.head) c.asked.view_is) c.new-attempts.ensures
    c.in_err-outcome.ensures.began)

pub returns-clause-did : goal.returns-clause-did
returns-clause-did g c =
    answered-so c.args.budget c.args.asked.now c.args.parts.now (must_be_whole c.args.asked.now) c.in_ok-rule.rule.whole c.asked.inside.head _ _ c.in_ok-outcome.outcome c.attempts.inside.at_risk c.settled_as.result
    c.requires.movable (c.in_ok-rule.ensures ∙ ap (λ b. span_if b c.args.asked.now.items) c.must_be_whole.ensures) (ap (λ z. z.head) c.asked.view_is) c.new-attempts.ensures (ap (λ z. z.at_risk) c.attempts.view_is)
    c.settled_as.ensures c.in_ok-outcome.ensures.flown

pub returns-clause-flew : goal.returns-clause-flew
returns-clause-flew g c =
    flew-so c.args.budget c.args.asked.now c.args.parts.now c.in_ok-rule.rule.whole c.asked.inside.head _ _ _ _ _ _ c.in_ok-outcome.outcome c.attempts.inside.at_risk c.settled_as.result
    c.requires.movable (c.in_ok-rule.ensures ∙ ap (λ b. span_if b c.args.asked.now.items) c.must_be_whole.ensures) (ap (λ z. z.head) c.asked.view_is) c.new-attempts.ensures (ap (λ z. z.at_risk) c.attempts.view_is)
    c.settled_as.ensures c.in_ok-outcome.ensures.flown
