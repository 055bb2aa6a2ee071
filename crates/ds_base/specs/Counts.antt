-- Counts of failures, refusals and losses, which stop at the last value of a u64.
use Rattle.std.specs.Prelude.{◌≡◌, ℕ, ◌-◌, ◌^◌, ◌<◌, ◌⊎◌}

-- the last value of a count
abbrev pub last_count : ℕ
last_count = 2 ^ 64 - 1

-- a count rose, or it stands at its last value
abbrev pub Rose : ℕ → ℕ → Type 0
Rose old new = (old < new) ⊎ ((old ≡ last_count) × (new ≡ last_count))
