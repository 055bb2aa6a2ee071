-- The entries of a cache, the most recently used first, and what is done to them.
use Rattle.std.specs.Prelude.{◌≡◌, ℕ, ◌<◌, ◌≤◌, true, cond, List, ◌∷◌, Option, Some, None, length, find, nat_eq}
use Rattle.std.specs.List.{IsDistinct}
use Rattle.std.specs.Map.{lookup, remove_entry, keys_of}
use Rattle.std.specs.BTreeMap.{is_at}
use Rattle.ds_base.specs.Order.{key_cmp, key_lt}
use Rattle.ds_base.specs.declared.value.Dir.{Dir}
use Rattle.ds_desc.specs.Contains.{contains}
use Rattle.ds_desc.specs.Descs.{overlap}
use Rattle.ds_desc.specs.declared.desc.Info.{Info}

-- a serial, and what stands under it
abbrev pub Entry : Type 0
Entry = ℕ × Info

-- what a contract sees of a cache
pub record Cache : Type 0 where
  pub entries : List Entry
  pub capacity : ℕ
  pub given : ℕ

abbrev pub cache : List Entry → ℕ → ℕ → Cache
cache es n g = record { entries = es; capacity = n; given = g }

-- ---- what a call finds

-- the first entry that contains the key in the direction
abbrev pub found : Dir → List ℕ → List Entry → Option Entry
found d k es = find (λ e. contains d k e.1.desc.span) es

-- what stands under the serial
abbrev pub at_serial : ℕ → List Entry → Option Info
at_serial s es = lookup (nat_eq s) es

-- ---- what it leaves

-- the entries but for the one of this serial
abbrev pub without : ℕ → List Entry → List Entry
without s es = remove_entry (nat_eq s) es

-- the entry goes to the front
abbrev pub to_front : Option Entry → List Entry → List Entry
to_front None es = es
to_front (Some e) es = e ∷ without e.0 es

-- ---- what every cache keeps

-- entries that overlap are one entry
abbrev pub NoOverlap : List Entry → Type 0
NoOverlap es = (s t : ℕ) (a b : Info) → at_serial s es ≡ Some a → at_serial t es ≡ Some b → overlap a.desc.span b.desc.span ≡ true → s ≡ t

pub record IsSound (c : Cache) : Type 0 where
  pub apart : NoOverlap c.entries
  pub spans : (s : ℕ) (i : Info) → at_serial s c.entries ≡ Some i → key_lt i.desc.span.start i.desc.span.end ≡ true
  pub serials : (s : ℕ) (i : Info) → at_serial s c.entries ≡ Some i → (0 < s) × (s ≤ c.given)
  pub distinct : IsDistinct nat_eq (keys_of c.entries)
  pub fits : length c.entries ≤ c.capacity
  pub some : 1 ≤ c.capacity

-- the map has each entry's serial under its start, and nothing else
pub record IsIndex (es : List Entry) (m : List (List ℕ × ℕ)) : Type 0 where
  pub only : (k : List ℕ) (s : ℕ) → lookup (is_at (key_cmp k)) m ≡ Some s → (i : Info) × (at_serial s es ≡ Some i) × (i.desc.span.start ≡ k)
  pub each : (s : ℕ) (i : Info) → at_serial s es ≡ Some i → lookup (is_at (key_cmp i.desc.span.start)) m ≡ Some s

-- the map r is m without what stands under k
abbrev pub Unindexed : List ℕ → List (List ℕ × ℕ) → List (List ℕ × ℕ) → Type 0
Unindexed k m r = (q : List ℕ) → lookup (is_at (key_cmp q)) r ≡ cond (is_at (key_cmp k) q) None (lookup (is_at (key_cmp q)) m)
