use Rattle.ds_ranges.proofs.Events.{move-next}
use Rattle.ds_ranges.proofs.descs.follow_at.Goals as goal

pub moved_desc-requires : goal.moved_desc-requires
moved_desc-requires c = move-next c.args.nodes.now c.range_at.result.now (c.requires.can c.range_at.result.now c.range_at.ensures)
