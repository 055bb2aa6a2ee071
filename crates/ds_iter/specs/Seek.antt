-- What a seek answers, and what it leaves of the cache and of the directory of ranges.
use Rattle.std.specs.Prelude.{◌≡◌, ℕ, true, List, [], ◌∷◌, Option, Some, None, Result, Ok, Err, ◌⊎◌}
use Rattle.std.specs.declared.alloc.AllocError.{AllocError}
use Rattle.ds_base.specs.declared.value.Dir.{Dir}
use Rattle.ds_desc.specs.Contains.{contains, FirstContains}
use Rattle.ds_desc.specs.declared.desc.Info.{Info}
use Rattle.ds_desc.specs.declared.meta.Looked.{Looked}
use Rattle.ds_desc.specs.declared.meta.Looked.TheVariants as answers
use Rattle.ds_cache.specs.Entries.{Entry, Cache, cache, to_front}
use Rattle.ds_cache.specs.Insert.{put_in, put_all, PutFrom}
use Rattle.ds_iter.specs.declared.sought.Sought.{Sought}
use Rattle.ds_iter.specs.declared.sought.Sought.TheVariants.{Found, Lost}

-- the first of some rows, where all are inserted, the last first; its token is what its own insertion gives
abbrev pub first_row : List Info → Cache → Sought
first_row [] c = Lost
first_row (i ∷ is) c = Found i (put_in i (put_all is c)).token

-- what was sought, and the cache after it, where the lookup answered this
abbrev pub AfterLookup : Looked → Cache → Sought → Cache → Type 0
AfterLookup (answers.Rows is) old s new = (s ≡ first_row is old) × (new ≡ put_all is old)
AfterLookup answers.Lost old s new = (s ≡ Lost) × (new ≡ old)

-- how a directory stands after one lookup to what it was
abbrev pub Lookups : Type 0 → Type 1
Lookups M = M → M → List ℕ → Dir → Result Looked AllocError → Type 0

-- found in the cache: no lookup is made, and the entry comes to the front
abbrev pub FoundWithout : {M : Type 0} → Entry → Cache → M → Sought → Cache → M → Type 0
FoundWithout e old before s new after = (s ≡ Found e.1 e.0) × (new ≡ cache (to_front (Some e) old.entries) old.capacity old.given) × (after ≡ before)

-- found by one lookup of this key, whose first row contains it; so it is lost exactly where the lookup's answer was
abbrev pub FoundBy : {M : Type 0} → Lookups M → Dir → List ℕ → Cache → M → Sought → Cache → M → Type 0
FoundBy looked d k old before s new after = (l : Looked) × looked before after k d (Ok l) × FirstContains d k l × AfterLookup l old s new

-- a lookup is made only where the cache has no entry that contains the key
abbrev pub SoughtBy : {M : Type 0} → Lookups M → Dir → List ℕ → Option Entry → Cache → M → Sought → Cache → M → Type 0
SoughtBy looked d k (Some e) old before s new after = FoundWithout e old before s new after
SoughtBy looked d k None old before s new after = FoundBy looked d k old before s new after

-- how far it came before memory was wanting: the lookup itself wanted it, or some of the last rows are inserted
abbrev pub BegunBy : {M : Type 0} → Lookups M → Dir → List ℕ → Option Entry → Cache → M → Cache → M → Type 0
BegunBy looked d k (Some e) old before new after = (new ≡ cache (to_front (Some e) old.entries) old.capacity old.given) × (after ≡ before)
BegunBy looked d k None old before new after = ((e : AllocError) × looked before after k d (Err e) × (new ≡ old)) ⊎ ((is : List Info) × looked before after k d (Ok (answers.Rows is)) × FirstContains d k (answers.Rows is) × PutFrom is old new)

-- what is found contains the key
abbrev pub ContainsKey : Dir → List ℕ → Sought → Type 0
ContainsKey d k (Found i t) = contains d k i.desc.span ≡ true
ContainsKey d k Lost = Unit {0}
