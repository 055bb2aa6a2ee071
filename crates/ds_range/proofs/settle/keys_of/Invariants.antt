use Rattle.std.proofs.Common.{◌≡◌, ◌++◌, map}
use Rattle.ds_cell.specs.Ask.{key_of}
use Rattle.ds_range.proofs.settle.keys_of.Given as goal

-- the keys so far, and those still to come
abbrev pub invariant-cells : goal.invariant-cells
invariant-cells l = l.keys ++ map key_of l.key-iterator ≡ map key_of l.cells.entries
