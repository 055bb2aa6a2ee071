-- Lists of things that are read one by one.
use Rattle.std.specs.Prelude.{ℕ, List, [], ◌∷◌, Option, Some, None, option_and_then, Result, Ok, if◌then◌else◌}
use Rattle.serde_json.specs.Data.{Data, Items, no_items, item}
use Rattle.serde_json.specs.Find.{as_array}
use Rattle.ds_desc.specs.Replicas.{are_replicas}
use Rattle.ds_desc.specs.declared.nodes.Nodes.{Nodes}
use Rattle.ds_fields.specs.declared.fault.FaultKind.{FaultKind}
use Rattle.ds_fields.specs.Fault.{◌>>=◌, need, map2}
use Rattle.ds_fields.specs.Scalars.{number_of}

-- each item by f
abbrev pub each : {A : Type 0} → (Data → Result (Option A) FaultKind) → Items → Result (Option (List A)) FaultKind
each f no_items = Ok (Some [])
each f (item d ds) = f d >>= λ x. each f ds >>= λ xs. Ok (map2 (λ x xs. x ∷ xs) x xs)

unfoldable pub list_of : {A : Type 0} → (Data → Result (Option A) FaultKind) → Data → Result (Option (List A)) FaultKind
list_of f d = do
  ds ← need (as_array d)
  each f ds

abbrev pub replicas : List ℕ → Option Nodes
replicas ns = if are_replicas ns then Some ns else None

-- the nodes of a range: one to seven, none twice
unfoldable pub nodes_of : Data → Result (Option Nodes) FaultKind
nodes_of d = do
  ns ← list_of (number_of 8) d
  Ok (option_and_then replicas ns)
