-- What contracts see of a sender.
use Rattle.std.specs.Prelude.{ℕ, List}
use Rattle.ds_cache.specs.Entries.{Entry}

-- what its cache holds, how many descriptors that may hold, and how many refusals and losses a batch may meet
pub record SenderState : Type 0 where
  pub entries : List Entry
  pub capacity : ℕ
  pub budget : ℕ
