-- A loop over a list: what was read so far, joined with what is still read.
use Rattle.std.proofs.Common.{List, ◌++◌, Bool, true, false, Option, Some, None, Result, Ok}
use Rattle.ds_fields.specs.declared.fault.FaultKind.{FaultKind}
use Rattle.ds_fields.specs.Fault.{◌>>=◌, map2}

abbrev pub front_of : {A : Type 0} → Bool → List A → Option (List A)
front_of true xs = Some xs
front_of false xs = None

abbrev pub joined : {A : Type 0} → Option (List A) → Result (Option (List A)) FaultKind → Result (Option (List A)) FaultKind
joined front rest = rest >>= λ r. Ok (map2 (λ xs ys. xs ++ ys) front r)
