-- Entries met one by one, the last first, in search of the one used last that outdates a descriptor.
use Rattle.std.specs.Prelude.{◌≡◌, ℕ, ◌≤◌, true, false, List, Option, Some, None}
use Rattle.ds_base.specs.Order.{key_lt}
use Rattle.ds_desc.specs.declared.desc.Info.{Info}
use Rattle.ds_desc.specs.Descs.{overlap}
use Rattle.ds_cache.specs.Entries.{Entry, at_serial}
use Rattle.ds_cache.specs.Insert.{outdates}
use Rattle.ds_cache.specs.Uses.{last_use}

-- no entry that starts below k overlaps i
abbrev pub NoneReaches : Info → List ℕ → List Entry → Type 0
NoneReaches i k es = (t : ℕ) (j : Info) → at_serial t es ≡ Some j → key_lt j.desc.span.start k ≡ true → overlap i.desc.span j.desc.span ≡ false

-- e is the last entry that starts below k, and s its serial
pub record IsLastReaching (k : List ℕ) (es : List Entry) (s : ℕ) (e : Info) : Type 0 where
  pub there : at_serial s es ≡ Some e
  pub low : key_lt e.desc.span.start k ≡ true
  pub last : (u : ℕ) (j : Info) → at_serial u es ≡ Some j → key_lt j.desc.span.start k ≡ true → key_lt e.desc.span.start j.desc.span.start ≡ false

-- no entry at k or above it outdates i
abbrev pub NoneAbove : Info → List ℕ → List Entry → Type 0
NoneAbove i k es = (t : ℕ) (j : Info) → at_serial t es ≡ Some j → outdates i j ≡ true → key_lt j.desc.span.start k ≡ true

-- of the entries at k or above it that outdate i, the one used last has p.0 as the number of that use and p.1 as generation
pub record IsLatestAbove (i : Info) (k : List ℕ) (es : List Entry) (m : List (ℕ × ℕ)) (p : ℕ × ℕ) : Type 0 where
  pub serial : ℕ
  pub entry : Info
  pub there : at_serial serial es ≡ Some entry
  pub newer : outdates i entry ≡ true
  pub used : last_use serial m ≡ Some p.0
  pub generation : entry.desc.generation ≡ p.1
  pub latest : (u v : ℕ) (j : Info) → at_serial u es ≡ Some j → outdates i j ≡ true → key_lt j.desc.span.start k ≡ false → last_use u m ≡ Some v → v ≤ p.0

-- what is known of the entries at k or above it
abbrev pub Walked : Info → List ℕ → List Entry → List (ℕ × ℕ) → Option (ℕ × ℕ) → Type 0
Walked i k es m None = NoneAbove i k es
Walked i k es m (Some p) = IsLatestAbove i k es m p
