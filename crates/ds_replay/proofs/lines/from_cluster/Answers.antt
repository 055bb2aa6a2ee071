use Rattle.std.proofs.Common.{sym, ◌∙◌}
use Rattle.ds_replay.proofs.Takings.{event-taken}
use Rattle.ds_replay.proofs.lines.from_cluster.Goals as goal

pub returns-in-Some-clause-taken : goal.returns-in-Some-clause-taken
returns-in-Some-clause-taken c =
    event-taken c.args.sender.now.budget c.args.sim c.args.txn c.args.begun c.in-Some.event c.args.numbered.now c.args.log.now c.make.result (sym c.in-Some.is ∙ c.in_ok-event.ensures) c.requires.built c.make.ensures
