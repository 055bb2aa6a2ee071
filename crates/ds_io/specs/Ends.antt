-- The end of a source, and more bytes than are wanted.
use Rattle.std.specs.Prelude.{◌≡◌, ℕ, ◌+◌, List, [], ◌↔◌, Option, None, Some, length}
use Rattle.std.specs.Io.KnownBytes.{Consumes}

-- of known bytes none is given exactly where none was left
abbrev pub EndsExactly : Option (List ℕ) → ℕ → Type 0
EndsExactly None given = Unit {0}
EndsExactly (Some left) given = (given ≡ 0) ↔ (left ≡ [])

-- one byte more than so many was taken, and no further one
abbrev pub TookOneMore : ℕ → Option (List ℕ) → Option (List ℕ) → Type 0
TookOneMore most left after = (bytes : List ℕ) × (length bytes ≡ most + 1) × Consumes left after bytes
