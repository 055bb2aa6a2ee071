-- When each entry was last used.
use Rattle.std.specs.Prelude.{◌≡◌, ℕ, ⊤, ◌<◌, ◌-◌, ◌^◌, cond, List, [], ◌∷◌, Option, Some, None, nat_eq, nat_lt}
use Rattle.std.specs.Map.{lookup}
use Rattle.ds_cache.specs.Entries.{Entry}

-- the number of the last use of what stands under the serial
abbrev pub last_use : ℕ → List (ℕ × ℕ) → Option ℕ
last_use s m = lookup (nat_eq s) m

-- the last uses are below n, and fall along the entries
abbrev pub Fall : ℕ → List (ℕ × ℕ) → List Entry → Type 0
Fall n m [] = ⊤
Fall n m (e ∷ es) = (u : ℕ) × (last_use e.0 m ≡ Some u) × (u < n) × Fall u m es

-- they do until the numbers are used up, of which n is the next
abbrev pub AreRanked : ℕ → List (ℕ × ℕ) → List Entry → Type 0
AreRanked n m es = n < 2 ^ 64 - 1 → Fall n m es

-- r is m with the number n under s
abbrev pub Noted : ℕ → ℕ → List (ℕ × ℕ) → List (ℕ × ℕ) → Type 0
Noted s n m r = (q : ℕ) → last_use q r ≡ cond (nat_eq s q) (Some n) (last_use q m)

-- r is m without what stands under s
abbrev pub Forgotten : ℕ → List (ℕ × ℕ) → List (ℕ × ℕ) → Type 0
Forgotten s m r = (q : ℕ) → last_use q r ≡ cond (nat_eq s q) None (last_use q m)

-- of what was met so far and one more, each the number of a use and a generation, the one used last
abbrev pub used_later : Option (ℕ × ℕ) → ℕ × ℕ → ℕ × ℕ
used_later None p = p
used_later (Some q) p = cond (nat_lt q.0 p.0) p q
