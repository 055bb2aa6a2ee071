-- Counts of failed calls, which stop at the last value of a u64, and what they say of a call.
use Rattle.std.specs.Prelude.{◌≡◌, ℕ, ◌+◌, min, Result, MatchResult}
use Rattle.ds_base.specs.Counts.{Rose, last_count}

-- a count after one more call, which stops at the last value
abbrev pub raised : ℕ → ℕ
raised n = min (n + 1) last_count

-- a call that fails raises the count, and one that does not leaves it
abbrev pub Counts : {A E : Type 0} → Result A E → ℕ → ℕ → Type 0
Counts result old new = MatchResult result (λ _. new ≡ old) (λ _. Rose old new)
