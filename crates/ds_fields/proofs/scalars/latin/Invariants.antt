use Rattle.std.proofs.Common.{◌≡◌, true}
use Rattle.ds_fields.specs.Scalars.{are_bytes}
use Rattle.ds_fields.proofs.scalars.latin.Given as goal

abbrev pub invariant-loop-c : goal.invariant-loop-c
invariant-loop-c l = record { so_far : l.bytes.items ≡ l.yielded; fit : are_bytes l.yielded ≡ true }
