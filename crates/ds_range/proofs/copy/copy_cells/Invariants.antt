use Rattle.std.proofs.Common.{◌≡◌, ◌++◌}
use Rattle.ds_range.proofs.copy.copy_cells.Given as goal

-- the cells so far, and those still to come
abbrev pub invariant-each : goal.invariant-each
invariant-each l = l.made.entries ++ l.key-iterator ≡ l.cells.entries
