use Rattle.ds_replay.proofs.Readying.{happens-of}
use Rattle.ds_replay.proofs.asking.begin_block.Goals as goal

pub start_block-requires-clause-moves : goal.start_block-requires-clause-moves
start_block-requires-clause-moves c = (happens-of c.args.floor.0 c.args.block.now.events c.requires.happens).moves
