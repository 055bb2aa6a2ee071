use Rattle.std.proofs.Common.{◌≡◌}
use Rattle.ds_cell.specs.Replies.{rows_of}
use Rattle.ds_cell.proofs.body.rows_of.Given as goal

-- the rows of the answers so far
abbrev pub invariant-bits : goal.invariant-bits
invariant-bits l = l.rows ≡ rows_of l.yielded
