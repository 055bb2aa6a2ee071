-- Counts of failed calls.
use Rattle.std.proofs.Common.{ℕ, ◌≤◌, Result, Ok, Err, arith}
use Rattle.ds_io.specs.Counts.{Counts}

-- no call lowers the count
pub never_falls : {A E : Type 0} (result : Result A E) (old new : ℕ) → Counts result old new → old ≤ new
never_falls (Ok _) old new h = omega arith
never_falls (Err _) old new h = omega arith
