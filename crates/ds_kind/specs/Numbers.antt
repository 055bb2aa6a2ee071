-- The sequence numbers of a batch's requests.
use Rattle.std.specs.Prelude.{ℕ, ◌+◌, ◌≤◌, List, [], ◌∷◌, if◌then◌else◌}
use Rattle.ds_base.specs.declared.value.Seq.{Seq}
use Rattle.ds_kind.specs.declared.request.Request.{Request}
use Rattle.ds_kind.specs.Asks.{takes_number}

-- the number of a request, after the last one given
abbrev pub next_number : ℕ → Request → ℕ
next_number last r = if takes_number r then last + 1 else last

abbrev pub numbers_from : ℕ → List Request → List Seq
numbers_from last [] = []
numbers_from last (r ∷ rs) = record { 0 = next_number last r } ∷ numbers_from (next_number last r) rs

-- the last of the numbers, or the one before them
abbrev pub last_number : ℕ → List Seq → ℕ
last_number last [] = last
last_number last (s ∷ ss) = last_number s.0 ss

-- each number is at least the one before it
abbrev pub NeverFall : ℕ → List Seq → Type 0
NeverFall last [] = Unit {0}
NeverFall last (s ∷ ss) = (last ≤ s.0) × NeverFall s.0 ss
