-- A cut between two bounds, each of which may be absent.
use Rattle.std.specs.Prelude.{ℕ, Bool, true, List, Option, Some, None}
use Rattle.ds_base.specs.Order.{Extent, key_lt, key_le, holds, max_key, min_key}

abbrev pub not_below : Option (List ℕ) → List ℕ → List ℕ
not_below None k = k
not_below (Some m) k = max_key m k

abbrev pub not_above : Option (List ℕ) → List ℕ → List ℕ
not_above None k = k
not_above (Some m) k = min_key m k

-- the part of a span between the bounds
abbrev pub clip : Option (List ℕ) → Option (List ℕ) → Extent → Extent
clip low high x = record { start = not_below low x.start; end = not_above high x.end }

-- whether the bounds leave a key
abbrev pub passes : Option (List ℕ) → Option (List ℕ) → List ℕ → Bool
passes None None k = true
passes (Some s) None k = key_le s k
passes None (Some e) k = key_lt k e
passes (Some s) (Some e) k = holds s e k
