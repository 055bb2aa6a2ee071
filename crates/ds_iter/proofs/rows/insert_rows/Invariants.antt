use Rattle.std.proofs.Common.{◌<◌, length}
use Rattle.ds_iter.proofs.RowSteps.{Inserting}
use Rattle.ds_iter.proofs.rows.insert_rows.Given as goal

-- some first rows are left, and those behind them are inserted
abbrev pub invariant-rows : goal.invariant-rows
invariant-rows l = Inserting l.fn.rows l.rows.items l.fn.cache l.cache × (0 < length l.rows.items)

abbrev pub decreases-rows : goal.decreases-rows
decreases-rows l = length l.rows.items
