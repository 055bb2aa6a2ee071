-- A list, and how many items it has room for.
use Rattle.std.specs.Prelude.{ℕ, List}

pub record Roomy (X : Type 0) : Type 0 where
  pub items : List X
  pub size : ℕ
