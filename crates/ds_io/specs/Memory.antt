-- What contracts see of a source and a sink in memory, and which of their calls fail.
use Rattle.std.specs.Prelude.{ℕ, List, Bool, ◌==◌}
use Rattle.std.specs.List.{list_any}

-- the bytes that are left, the numbers of the takes that fail, and how many takes there were and failed
pub record SourceState : Type 0 where
  pub left : List ℕ
  pub fail : List ℕ
  pub calls : ℕ
  pub faults : ℕ

-- the bytes that were taken, how many more there is room for, the numbers of the puts that fail, and
-- how many puts there were and failed
pub record SinkState : Type 0 where
  pub held : List ℕ
  pub room : ℕ
  pub fail : List ℕ
  pub calls : ℕ
  pub faults : ℕ

-- the number stands in the list
abbrev pub is_listed : ℕ → List ℕ → Bool
is_listed number numbers = list_any (λ listed. listed == number) numbers
