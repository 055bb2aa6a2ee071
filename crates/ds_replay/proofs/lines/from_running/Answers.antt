use Rattle.ds_replay.proofs.Takings.{batch-taken, batch-within, begin-taken, close-taken}
use Rattle.ds_replay.proofs.lines.from_running.Goals as goal

pub returns-in_ok-begin-in-Begin-clause-taken : goal.returns-in_ok-begin-in-Begin-clause-taken
returns-in_ok-begin-in-Begin-clause-taken c =
    begin-taken c.args.sim c.begin.new.self c.args.txn c.args.begun c.begin-in-Begin.result c.in-Begin.stamp c.in-Begin.key c.args.numbered.now c.args.log.now c.in-Begin.is c.requires.built c.begin-in-Begin.ensures c.in_ok-begin-in-Begin.ensures.ok

pub returns-in_ok-note_close-in-Close-clause-taken : goal.returns-in_ok-note_close-in-Close-clause-taken
returns-in_ok-note_close-in-Close-clause-taken c =
    close-taken c.args.sim c.note_close.new.sim c.args.txn c.args.begun c.args.numbered.now c.args.log.now c.note_close.new.log c.in-Close.is c.requires.built c.in_ok-note_close-in-Close.ensures.world c.in_ok-note_close-in-Close.ensures.logged

pub returns-in_ok-ask-in-Batch-clause-within : goal.returns-in_ok-ask-in-Batch-clause-within
returns-in_ok-ask-in-Batch-clause-within c =
    batch-within c.args.sim c.ask.new.sim c.args.txn c.ask.new.txn c.args.begun c.args.sender.now.budget c.in-Batch.batch c.in-Batch.block c.args.numbered.now c.args.log.now c.ask.new.log c.in-Batch.is c.requires.built c.requires.within.2
    c.in_ok-ask-in-Batch.ensures.asked

pub returns-in_ok-ask-in-Batch-clause-taken : goal.returns-in_ok-ask-in-Batch-clause-taken
returns-in_ok-ask-in-Batch-clause-taken c =
    batch-taken c.args.sim c.ask.new.sim c.args.txn c.ask.new.txn c.args.begun c.args.sender.now.budget c.in-Batch.batch c.in-Batch.block c.args.numbered.now c.args.log.now c.ask.new.log c.in-Batch.is c.requires.built c.requires.within.2
    c.in_ok-ask-in-Batch.ensures.asked
