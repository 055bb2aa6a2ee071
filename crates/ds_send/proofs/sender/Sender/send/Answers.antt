use Rattle.std.proofs.Common.{subst}
use Rattle.ds_send.specs.Calls.{IsShown, Learned}
use Rattle.ds_send.specs.Sender.{SenderState}
use Rattle.ds_send.proofs.Showing.{learned-by, shown-by}
use Rattle.ds_send.proofs.sender.Sender.send.Goals as goal

pub returns-clause-shown : goal.returns-clause-shown
returns-clause-shown g c = λ given none q asks.
    let a = g.W.Wire.state c.args.wire.now in
    let b = g.W.Wire.state c.send_checked.new.wire in
    subst (λ (s : SenderState). IsShown s.budget q a b s.entries c.send_checked.result) c.self.view_is
    (shown-by c.self.inside.budget q a b c.self.inside.cache.entries c.send_checked.new.cache.entries c.send_checked.result given (c.send_checked.ensures.sent none q asks))

pub returns-clause-learned : goal.returns-clause-learned
returns-clause-learned g c = λ none q asks.
    let a = g.W.Wire.state c.args.wire.now in
    let b = g.W.Wire.state c.send_checked.new.wire in
    subst (λ (s : SenderState). Learned a b s.entries c.send_checked.new.cache.entries) c.self.view_is
    (learned-by c.self.inside.budget q a b c.self.inside.cache.entries c.send_checked.new.cache.entries c.send_checked.result (c.send_checked.ensures.sent none q asks))
