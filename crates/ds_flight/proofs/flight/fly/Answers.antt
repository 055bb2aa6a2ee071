use Rattle.std.proofs.Common.{◌≤◌, ap, arith, ◌∙◌, subst, sym}
use Rattle.ds_iter.proofs.RowSteps.{on_err}
use Rattle.ds_flight.specs.Fills.{FilledTo}
use Rattle.ds_flight.specs.Flown.{flight}
use Rattle.ds_flight.specs.Picked.{most_of}
use Rattle.ds_flight.specs.Places.{waiting}
use Rattle.ds_flight.proofs.Aloft.{aloft-began, aloft-filled, aloft-first, aloft-inside, aloft-proper, aloft-ready, aloft-sendable, aloft-sent, began-filled, began-sent, few-first, filled-apart, filled-few, filled-full, filled-spent, filled-whole, sent-ended, sent-goes, short-if}
use Rattle.ds_flight.proofs.flight.fly.Goals as goal

pub flight-init : goal.flight-init
flight-init g c = record {
  aloft = aloft-first (flight c.args.part.now c.args.head.now c.args.rule.now.whole) c.args.left _ _ _ c.requires.some c.requires.proper c.in_ok-work.ensures c.in_ok-gather.ensures;
  goes = c.requires.goes_on;
  few = few-first (most_of c.args.left) c.args.part.now _ c.in_ok-work.ensures;
}

pub fill-requires-clause-ready : goal.fill-requires-clause-ready
fill-requires-clause-ready g c = aloft-ready (flight c.args.part.now c.args.head.now c.args.rule.now.whole) c.args.left _ _ _ _ _ _ c.flight.invariant.aloft

pub returns-in_err-fill-clause-began : goal.returns-in_err-fill-clause-began
returns-in_err-fill-clause-began g c = on_err _ _ (began-filled (flight c.args.part.now c.args.head.now c.args.rule.now.whole) c.args.left _ _ _ _ _ _ _ c.in_err-fill.ensures.tries c.requires.whole c.flight.invariant.aloft c.in_err-fill.ensures.sought)

pub returns-in-NotWhole-clause-flown : goal.returns-in-NotWhole-clause-flown
returns-in-NotWhole-clause-flown g c = filled-apart (flight c.args.part.now c.args.head.now c.args.rule.now.whole) c.args.left _ _ _ _ _ _ _ _ c.in_ok-fill.field-0 c.in-NotWhole.desc c.requires.whole c.flight.invariant.aloft c.in-NotWhole.is c.in_ok-fill.ensures.routed c.in_ok-fill.ensures.counts

pub returns-in-Spent-clause-flown : goal.returns-in-Spent-clause-flown
returns-in-Spent-clause-flown g c = filled-spent (flight c.args.part.now c.args.head.now c.args.rule.now.whole) c.args.left _ _ _ _ _ _ _ _ c.in_ok-fill.field-0 c.exhausted.result c.requires.goes_on c.requires.whole c.flight.invariant.aloft c.in-Spent.is c.in_ok-fill.ensures.routed c.in_ok-fill.ensures.counts c.exhausted.ensures

pub send_one-requires-clause-few : goal.send_one-requires-clause-few
send_one-requires-clause-few g c =
    let filled = subst (λ m. FilledTo m c.flight.attempts c.fill.new.attempts c.flight.work.items c.fill.new.work.items c.in_ok-fill.field-0) c.most_waiting-most.ensures.most c.in_ok-fill.ensures.filled in
    let few : waiting c.fill.new.work.items ≤ most_of c.args.left = filled-few (most_of c.args.left) c.flight.attempts c.fill.new.attempts c.flight.work.items c.fill.new.work.items c.in_ok-fill.field-0 c.in-On.is filled c.flight.invariant.few in
    let most : most_of c.args.left ≤ 16 = subst (λ m. m ≤ 16) c.most_waiting-most.ensures.most c.most_waiting-most.ensures.few in
    omega (arith, few, most)

pub send_one-requires-clause-ready : goal.send_one-requires-clause-ready
send_one-requires-clause-ready g c =
    let f = flight c.args.part.now c.args.head.now c.args.rule.now.whole in
    let filled = subst (λ m. FilledTo m c.flight.attempts c.fill.new.attempts c.flight.work.items c.fill.new.work.items c.in_ok-fill.field-0) c.most_waiting-most.ensures.most c.in_ok-fill.ensures.filled in
    let few = filled-few (most_of c.args.left) c.flight.attempts c.fill.new.attempts c.flight.work.items c.fill.new.work.items c.in_ok-fill.field-0 c.in-On.is filled c.flight.invariant.few in
    aloft-sendable f c.args.left _ _ _ _ _ _ (aloft-filled f c.args.left _ _ _ _ _ _ _ c.in_ok-fill.field-0 c.requires.whole c.flight.invariant.aloft c.in-On.is c.in_ok-fill.ensures.routed c.in_ok-fill.ensures.queue few)

pub end_short-requires-clause-ready : goal.end_short-requires-clause-ready
end_short-requires-clause-ready g c = aloft-proper (flight c.args.part.now c.args.head.now c.args.rule.now.whole) c.args.left _ _ _ _ _ _ c.flight.invariant.aloft

pub end_short-requires-clause-inside : goal.end_short-requires-clause-inside
end_short-requires-clause-inside g c = aloft-inside (flight c.args.part.now c.args.head.now c.args.rule.now.whole) c.args.left _ _ _ _ _ _ c.requires.rise c.flight.invariant.aloft

pub returns-clause-flown : goal.returns-clause-flown
returns-clause-flown g c = short-if (flight c.args.part.now c.args.head.now c.args.rule.now.whole) c.args.left _ _ _ _ _ c.end_short.result c.flight.invariant.aloft c.flight.invariant.goes (sym c.is_used_up.ensures ∙ c.flight-test.false) c.end_short.ensures

pub returns-clause-began : goal.returns-clause-began
returns-clause-began g c = on_err _ _ (aloft-began (flight c.args.part.now c.args.head.now c.args.rule.now.whole) c.args.left _ _ _ _ _ _ c.flight.invariant.goes c.flight.invariant.aloft)

pub returns-then-routed_count-eq0-clause-flown : goal.returns-then-routed_count-eq0-clause-flown
returns-then-routed_count-eq0-clause-flown g c =
    let f = flight c.args.part.now c.args.head.now c.args.rule.now.whole in
    let filled = subst (λ m. FilledTo m c.flight.attempts c.fill.new.attempts c.flight.work.items c.fill.new.work.items c.in_ok-fill.field-0) c.most_waiting-most.ensures.most c.in_ok-fill.ensures.filled in
    let few = filled-few (most_of c.args.left) c.flight.attempts c.fill.new.attempts c.flight.work.items c.fill.new.work.items c.in_ok-fill.field-0 c.in-On.is filled c.flight.invariant.few in
    let aloft = aloft-filled f c.args.left _ _ _ _ _ _ _ c.in_ok-fill.field-0 c.requires.whole c.flight.invariant.aloft c.in-On.is c.in_ok-fill.ensures.routed c.in_ok-fill.ensures.queue few in
    filled-whole f c.args.left _ _ _ _ _ _ c.fill.new.work.items _ _ c.in_ok-fill.field-0 c.take.result aloft c.in-On.is c.in_ok-fill.ensures.counts filled (sym c.is_used_up.ensures ∙ c.flight-test.true)
    (sym (c.routed_count.ensures ∙ ap waiting c.as_slice.ensures.value) ∙ c.if-routed_count-eq0.true) c.take.ensures

pub returns-in_err-send_one-clause-began : goal.returns-in_err-send_one-clause-began
returns-in_err-send_one-clause-began g c =
    let f = flight c.args.part.now c.args.head.now c.args.rule.now.whole in
    let filled = subst (λ m. FilledTo m c.flight.attempts c.fill.new.attempts c.flight.work.items c.fill.new.work.items c.in_ok-fill.field-0) c.most_waiting-most.ensures.most c.in_ok-fill.ensures.filled in
    let few = filled-few (most_of c.args.left) c.flight.attempts c.fill.new.attempts c.flight.work.items c.fill.new.work.items c.in_ok-fill.field-0 c.in-On.is filled c.flight.invariant.few in
    let aloft = aloft-filled f c.args.left _ _ _ _ _ _ _ c.in_ok-fill.field-0 c.requires.whole c.flight.invariant.aloft c.in-On.is c.in_ok-fill.ensures.routed c.in_ok-fill.ensures.queue few in
    on_err _ _ (began-sent f c.args.left _ _ _ _ _ _ _ c.in_err-send_one.ensures.tries aloft (sym c.is_used_up.ensures ∙ c.flight-test.true) c.in_err-send_one.ensures.ran c.send_one.ensures.picked)

pub flight-preserved : goal.flight-preserved
flight-preserved g c =
    let f = flight c.args.part.now c.args.head.now c.args.rule.now.whole in
    let filled = subst (λ m. FilledTo m c.flight.attempts c.fill.new.attempts c.flight.work.items c.fill.new.work.items c.in_ok-fill.field-0) c.most_waiting-most.ensures.most c.in_ok-fill.ensures.filled in
    let few : waiting c.fill.new.work.items ≤ most_of c.args.left = filled-few (most_of c.args.left) c.flight.attempts c.fill.new.attempts c.flight.work.items c.fill.new.work.items c.in_ok-fill.field-0 c.in-On.is filled c.flight.invariant.few in
    let full = filled-full (most_of c.args.left) c.flight.attempts c.fill.new.attempts c.flight.work.items c.fill.new.work.items c.in_ok-fill.field-0 c.in-On.is filled in
    let aloft = aloft-filled f c.args.left _ _ _ _ _ _ _ c.in_ok-fill.field-0 c.requires.whole c.flight.invariant.aloft c.in-On.is c.in_ok-fill.ensures.routed c.in_ok-fill.ensures.queue few in
    let room = sym c.is_used_up.ensures ∙ c.flight-test.true in
    let kept : waiting c.send_one.new.work.items ≤ waiting c.fill.new.work.items = c.in_ok-send_one.ensures.few in
    record {
      aloft = aloft-sent f c.args.left _ _ _ _ _ _ _ _ _ _ c.in_ok-send_one.field-0 aloft room c.in-On-2.is c.in_ok-send_one.ensures.sent full few;
      goes = sent-goes f c.args.left _ _ _ _ _ _ _ _ _ _ c.in_ok-send_one.field-0 aloft room c.in-On-2.is c.in_ok-send_one.ensures.sent;
      few = omega (arith, few, kept);
    }

pub returns-in-Ended-clause-flown : goal.returns-in-Ended-clause-flown
returns-in-Ended-clause-flown g c =
    let f = flight c.args.part.now c.args.head.now c.args.rule.now.whole in
    let filled = subst (λ m. FilledTo m c.flight.attempts c.fill.new.attempts c.flight.work.items c.fill.new.work.items c.in_ok-fill.field-0) c.most_waiting-most.ensures.most c.in_ok-fill.ensures.filled in
    let few = filled-few (most_of c.args.left) c.flight.attempts c.fill.new.attempts c.flight.work.items c.fill.new.work.items c.in_ok-fill.field-0 c.in-On.is filled c.flight.invariant.few in
    let aloft = aloft-filled f c.args.left _ _ _ _ _ _ _ c.in_ok-fill.field-0 c.requires.whole c.flight.invariant.aloft c.in-On.is c.in_ok-fill.ensures.routed c.in_ok-fill.ensures.queue few in
    sent-ended f c.args.left _ _ _ _ _ _ _ _ _ _ c.in_ok-send_one.field-0 c.in-Ended.outcome aloft (sym c.is_used_up.ensures ∙ c.flight-test.true) c.in-Ended.is c.in_ok-send_one.ensures.sent
