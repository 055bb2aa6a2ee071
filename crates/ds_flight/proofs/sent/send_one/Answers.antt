use Rattle.ds_flight.proofs.Picking.{next-errs, next-few, next-lessens, next-oks, taken-place, taken-ready}
use Rattle.ds_flight.proofs.sent.send_one.Goals as goal

pub send_routed-requires-clause-place : goal.send_routed-requires-clause-place
send_routed-requires-clause-place g c = taken-place _ c.args.work.now.items c.take_next-at.new.work.items c.take_next-at.result.0 c.take_next-at.result.1 c.take_next-at.ensures.taken

pub send_routed-requires-clause-ready : goal.send_routed-requires-clause-ready
send_routed-requires-clause-ready g c = taken-ready _ c.args.work.now.items c.take_next-at.new.work.items c.take_next-at.result.0 c.take_next-at.result.1 c.take_next-at.ensures.taken c.requires.ready

pub returns-clause-sent : goal.returns-clause-sent
returns-clause-sent g c =
    next-oks c.args.head.now (g.W.Wire.state c.args.wire.now) (g.W.Wire.state c.take_next-at.new.wire) (g.W.Wire.state c.send_routed.new.wire) c.args.cache.now.entries c.send_routed.new.cache.entries c.args.attempts.now c.send_routed.new.attempts
    c.args.work.now.items c.take_next-at.new.work.items c.send_routed.new.work.items c.args.gather.now c.send_routed.new.gather c.args.left.now c.send_routed.new.left c.take_next-at.result.0 c.take_next-at.result.1 c.send_routed.result
    c.take_next-at.ensures.picked c.take_next-at.ensures.taken c.send_routed.ensures.ahead c.send_routed.ensures.sent

pub returns-clause-less : goal.returns-clause-less
returns-clause-less g c =
    next-lessens c.args.attempts.now c.send_routed.new.attempts _ c.args.work.now.items c.take_next-at.new.work.items c.send_routed.new.work.items c.take_next-at.result.0 c.take_next-at.result.1 c.send_routed.result
    c.take_next-at.ensures.taken c.send_routed.ensures.less

pub returns-clause-few : goal.returns-clause-few
returns-clause-few g c =
    next-few _ c.args.work.now.items c.take_next-at.new.work.items c.send_routed.new.work.items c.take_next-at.result.0 c.take_next-at.result.1 c.send_routed.result c.take_next-at.ensures.taken c.send_routed.ensures.few

pub returns-clause-ran : goal.returns-clause-ran
returns-clause-ran g c =
    next-errs c.args.head.now (g.W.Wire.state c.args.wire.now) (g.W.Wire.state c.take_next-at.new.wire) _ c.args.cache.now.entries c.args.attempts.now
    c.args.work.now.items c.take_next-at.new.work.items c.args.left.now c.take_next-at.result.0 c.take_next-at.result.1 c.send_routed.result
    c.take_next-at.ensures.picked c.take_next-at.ensures.taken c.send_routed.ensures.ran
