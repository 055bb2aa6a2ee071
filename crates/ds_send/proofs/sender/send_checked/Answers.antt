use Rattle.std.proofs.Common.{ap, ◌∙◌}
use Rattle.ds_rule.specs.Asking.{asking}
use Rattle.ds_send.specs.Asked.{asker_in}
use Rattle.ds_send.proofs.Calling.{by-answer}
use Rattle.ds_send.proofs.sender.send_checked.Goals as goal

pub returns-in-Ok-send_legal-clause-sent : goal.returns-in-Ok-send_legal-clause-sent
returns-in-Ok-send_legal-clause-sent g c = λ none q asks.
    by-answer c.args.budget q (g.W.Wire.state c.args.wire.now) (g.W.Wire.state c.send_legal.new.wire) c.args.cache.now.entries c.send_legal.new.cache.entries c.in-Ok-send_legal.outcome
    (c.in-Ok-send_legal.ensures.flew q (ap (asking (asker_in c.args.txn)) c.in-Ok.ensures.0 ∙ asks))
