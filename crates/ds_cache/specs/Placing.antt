-- What holds while an entry is placed, before what overlaps it has gone.
use Rattle.std.specs.Prelude.{◌≡◌, ℕ, List, ◌∷◌, true, false, cond, not, ◌||◌, Some, filter, nat_eq}
use Rattle.std.specs.List.{IsDistinct}
use Rattle.std.specs.Map.{keys_of, lookup}
use Rattle.std.specs.BTreeMap.{is_at}
use Rattle.ds_base.specs.Order.{key_lt, key_cmp}
use Rattle.ds_desc.specs.declared.desc.Info.{Info}
use Rattle.ds_desc.specs.Descs.{overlap}
use Rattle.ds_cache.specs.Entries.{Entry, at_serial}
use Rattle.ds_cache.specs.Insert.{clear_of, standing}

-- the entries but for the one of serial s don't overlap
abbrev pub OthersApart : ℕ → List Entry → Type 0
OthersApart s es = (t u : ℕ) (a b : Info) → at_serial t es ≡ Some a → at_serial u es ≡ Some b → nat_eq s t ≡ false → nat_eq s u ≡ false → overlap a.desc.span b.desc.span ≡ true → t ≡ u

abbrev pub AreSpans : List Entry → Type 0
AreSpans es = (t : ℕ) (a : Info) → at_serial t es ≡ Some a → key_lt a.desc.span.start a.desc.span.end ≡ true

-- t is another entry than s, and overlaps it
abbrev pub IsBeside : ℕ → List Entry → ℕ → Type 0
IsBeside s es t = (i : Info) × (j : Info) × (at_serial s es ≡ Some i) × (at_serial t es ≡ Some j) × (nat_eq s t ≡ false) × (overlap i.desc.span j.desc.span ≡ true)

-- no other entry overlaps s
abbrev pub IsAlone : ℕ → List Entry → Type 0
IsAlone s es = (i : Info) → at_serial s es ≡ Some i → (t : ℕ) (j : Info) → at_serial t es ≡ Some j → nat_eq s t ≡ false → overlap i.desc.span j.desc.span ≡ false

-- the entry of serial s, and those that don't overlap i
abbrev pub spared : ℕ → Info → List Entry → List Entry
spared s i es = filter (λ e. nat_eq s e.0 || not (overlap i.desc.span e.1.desc.span)) es

-- the map r is m with s under k
abbrev pub Reindexed : List ℕ → ℕ → List (List ℕ × ℕ) → List (List ℕ × ℕ) → Type 0
Reindexed k s m r = (q : List ℕ) → lookup (is_at (key_cmp q)) r ≡ cond (is_at (key_cmp k) q) (Some s) (lookup (is_at (key_cmp q)) m)

-- es is old with the entry s in front, but for some that overlap it
pub record IsPlaced (s : ℕ) (i : Info) (old es : List Entry) : Type 0 where
  pub here : at_serial s es ≡ Some i
  pub rest : (t : ℕ) (j : Info) → at_serial t es ≡ Some j → nat_eq s t ≡ false → at_serial t old ≡ Some j
  pub distinct : IsDistinct nat_eq (keys_of es)
  pub spare : spared s i es ≡ (s, i) ∷ clear_of i old
  pub span : key_lt i.desc.span.start i.desc.span.end ≡ true

-- s is the serial of the entry with the same descriptor
abbrev pub IsStanding : Info → List Entry → ℕ → Type 0
IsStanding i es s = (e : Info) × (at_serial s es ≡ Some e) × (standing i es ≡ Some (s, e))
