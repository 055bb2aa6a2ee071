use Rattle.std.proofs.Common.{◌≡◌, ◌++◌}
use Rattle.ds_serve.specs.Writes.{keys_written}
use Rattle.ds_serve.proofs.resolve.keys_written.Given as goal

-- the keys so far, with those still to come
abbrev pub invariant-cells : goal.invariant-cells
invariant-cells l = l.keys ++ keys_written l.key-iterator ≡ keys_written l.fn.cells
