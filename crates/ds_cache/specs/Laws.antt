-- Laws of every sound cache, whether or not somebody holds it.
use Rattle.std.specs.Prelude.{◌≡◌, ℕ, ◌<◌, ◌≤◌, true, Some, None, is_some, ◌⊎◌}
use Rattle.ds_base.specs.Order.{key_lt}
use Rattle.ds_desc.specs.declared.desc.Info.{Info}
use Rattle.ds_cache.specs.declared.inserted.Inserted.TheVariants.{Added}
use Rattle.ds_cache.specs.Entries.{Cache, at_serial, IsSound}
use Rattle.ds_cache.specs.Insert.{newer, standing, put_in}

-- where a descriptor stands, nothing outdates it: so at most one of Older and Renewed fits
abbrev pub StandingLaw : Type 0
StandingLaw = (c : Cache) → IsSound c → (i : Info) → is_some (standing i c.entries) ≡ true → newer i c.entries ≡ None

-- an insertion keeps what every cache keeps
abbrev pub PutLaw : Type 0
PutLaw = (c : Cache) → IsSound c → (i : Info) → key_lt i.desc.span.start i.desc.span.end ≡ true → IsSound (put_in i c).after

-- the token of an insertion names an entry with the descriptor that was inserted, or none
abbrev pub TokenLaw : Type 0
TokenLaw = (c : Cache) → IsSound c → (i : Info) → ((put_in i c).token ≡ 0) ⊎ ((j : Info) × (at_serial (put_in i c).token (put_in i c).after.entries ≡ Some j) × (j.desc ≡ i.desc))

-- an added entry has a serial above all that were given before, and it counts as given from then on
abbrev pub FreshLaw : Type 0
FreshLaw = (c : Cache) → IsSound c → (i : Info) → (put_in i c).inserted ≡ Added → (c.given < (put_in i c).token) × ((put_in i c).token ≤ (put_in i c).after.given)

-- no given serial becomes free again: what stands under one after an insertion stood there before it, with the same descriptor
abbrev pub KeptLaw : Type 0
KeptLaw = (c : Cache) → IsSound c → (i : Info) → (c.given ≤ (put_in i c).after.given)
    × ((s : ℕ) (j : Info) → s ≤ c.given → at_serial s (put_in i c).after.entries ≡ Some j → (e : Info) × (at_serial s c.entries ≡ Some e) × (j.desc ≡ e.desc))
