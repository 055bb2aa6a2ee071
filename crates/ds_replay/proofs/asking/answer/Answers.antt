use Rattle.std.proofs.Common.{sym, ◌∙◌}
use Rattle.ds_sim.specs.State.{state_of}
use Rattle.ds_replay.proofs.AskedSo.{refused-done, sent-done}
use Rattle.ds_replay.proofs.asking.answer.Goals as goal

pub returns-in-Some-clause-done : goal.returns-in-Some-clause-done
returns-in-Some-clause-done c =
    λ given. refused-done c.args.txn.now c.args.batch.now c.args.sender.now.budget (state_of c.args.sim.now) c.refused.result c.in-Some.outcome (sym c.in-Some.is ∙ c.refusal.ensures) c.refused.ensures

pub returns-in-None-clause-done : goal.returns-in-None-clause-done
returns-in-None-clause-done c =
    λ given. sent-done c.args.txn.now c.args.batch.now c.args.sender.now.budget (state_of c.args.sim.now) (state_of c.send.new.wire) c.args.sender.now.entries c.send.result _ (sym c.in-None.is ∙ c.refusal.ensures) c.sending-sent.ensures
    c.send.ensures.ruled c.send.ensures.did c.send.ensures.shown given
