use Rattle.ds_iter.proofs.RowSteps.{on_err}
use Rattle.ds_send.proofs.Flying.{as-began, as-done, as-ended, as-more, first-keeps}
use Rattle.ds_send.proofs.parts.fly_parts.Goals as goal

pub parts-init : goal.parts-init
parts-init g c = first-keeps c.args.head.now c.args.rule.now.whole c.as_slice-all.result.now _ c.new-replies.result c.new-replies.ensures c.requires.goes_on

pub returns-in_err-ended-clause-began : goal.returns-in_err-ended-clause-began
returns-in_err-ended-clause-began g c =
    on_err _ _ (as-began c.args.head.now c.args.rule.now.whole c.as_slice-all.result.now c.args.parts.now c.parts.i c.index-all-i.result _ _ _ c.parts.replies c.as_slice-all.ensures c.parts.invariant c.parts-test.true c.index-all-i.is c.in_err-ended.ensures.began)

pub returns-in-Some-clause-flown : goal.returns-in-Some-clause-flown
returns-in-Some-clause-flown g c =
    as-ended c.args.head.now c.args.rule.now.whole c.as_slice-all.result.now c.args.parts.now c.parts.i c.index-all-i.result _ _ _ c.parts.replies c.fly_next.new.replies c.in-Some.outcome c.in_ok-ended.ended c.as_slice-all.ensures c.parts.invariant c.parts-test.true c.index-all-i.is c.in-Some.is c.in_ok-ended.ensures.flown

pub parts-preserved : goal.parts-preserved
parts-preserved g c =
    as-more c.args.head.now c.args.rule.now.whole c.as_slice-all.result.now c.args.parts.now c.parts.i c.index-all-i.result _ _ _ c.parts.replies c.fly_next.new.replies c.in_ok-ended.ended c.as_slice-all.ensures c.parts.invariant c.parts-test.true c.index-all-i.is c.requires.flyable c.in_default.not-Some c.in_ok-ended.ensures.flown

pub returns-clause-flown : goal.returns-clause-flown
returns-clause-flown g c = as-done c.args.head.now c.args.rule.now.whole c.as_slice-all.result.now c.args.parts.now c.parts.i _ _ c.parts.replies c.new.result c.as_slice-all.ensures c.parts.invariant c.parts-test.false
