use Rattle.ds_flight.proofs.Nearest.{seek-more}
use Rattle.ds_flight.proofs.short.seek_left.Goals as goal

pub tasks-preserved : goal.tasks-preserved
tasks-preserved c =
    seek-more c.args.dir c.args.work.now c.tasks.task-index c.task-item.result c.tasks.nearest c.in_ok-seek_of.field-0 c.nearer-nearest.result
    c.tasks-test.true c.task-item.is c.requires c.tasks.invariant c.in_ok-seek_of.ensures c.nearer-nearest.ensures
