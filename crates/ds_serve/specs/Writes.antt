-- The keys that have writes of transactions.
use Rattle.std.specs.Prelude.{ℕ, List, map, is_some}
use Rattle.std.specs.List.{filter}
use Rattle.ds_cell.specs.Ask.{Cells, key_of}
use Rattle.ds_cell.specs.Seen.{last_of}

-- the keys of these that have writes
abbrev pub keys_written : Cells → List (List ℕ)
keys_written cells = map key_of (filter (λ p. is_some (last_of p.1.history)) cells)
