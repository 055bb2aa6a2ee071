use Rattle.std.proofs.Common.{◌≡◌, map, take}
use Rattle.ds_cover.specs.Cuts.{seek_key}
use Rattle.ds_cover.specs.Laws.{joined}
use Rattle.ds_flight.specs.Works.{items_of}
use Rattle.ds_flight.proofs.short.seek_left.Given as goal

-- the key for the tasks so far
abbrev pub invariant-tasks : goal.invariant-tasks
invariant-tasks l = l.nearest ≡ seek_key l.dir (joined (map items_of (take l.task-index l.work)))
