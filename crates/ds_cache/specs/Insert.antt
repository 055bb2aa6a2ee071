-- What an insertion answers, and what it leaves.
use Rattle.std.specs.Prelude.{◌≡◌, ℕ, ◌+◌, ◌-◌, ◌^◌, Bool, false, cond, not, ◌&&◌, List, [], ◌∷◌, Option, Some, None, find, filter, take, drop, nat_eq, nat_le, nat_lt}
use Rattle.ds_desc.specs.declared.desc.Info.{Info}
use Rattle.ds_desc.specs.declared.desc.Lease.{Lease}
use Rattle.ds_cache.specs.declared.inserted.Inserted.{Inserted}
use Rattle.ds_cache.specs.declared.inserted.Inserted.TheVariants.{Older, Renewed, Added, Spent}
use Rattle.ds_desc.specs.Descs.{overlap, same_desc}
use Rattle.ds_cache.specs.Entries.{Entry, Cache, cache, without}

-- e overlaps i, is at least as new, and is another descriptor
abbrev pub outdates : Info → Info → Bool
outdates i e = overlap i.desc.span e.desc.span && nat_le i.desc.generation e.desc.generation && not (same_desc i.desc e.desc)

-- the first entry that outdates i
abbrev pub newer : Info → List Entry → Option Entry
newer i es = find (λ e. outdates i e.1) es

-- the entry with the same descriptor
abbrev pub standing : Info → List Entry → Option Entry
standing i es = find (λ e. same_desc i.desc e.1.desc) es

-- the lease with the greater number
abbrev pub later : Lease → Lease → Lease
later a b = cond (nat_lt a.number b.number) b a

abbrev pub with_lease : Lease → Info → Info
with_lease l e = record { desc = e.desc; lease = l }

-- the entries that don't overlap i
abbrev pub clear_of : Info → List Entry → List Entry
clear_of i es = filter (λ e. not (overlap i.desc.span e.1.desc.span)) es

-- what was answered, the token's serial, and the cache after it
pub record Put : Type 0 where
  pub inserted : Inserted
  pub token : ℕ
  pub after : Cache

-- no descriptor outdates i, and it stands nowhere
abbrev pub put_new : Info → Cache → Put
put_new i c = cond (nat_eq c.given (2 ^ 64 - 1))
    (record { inserted = Spent; token = 0; after = c })
    (record { inserted = Added; token = c.given + 1; after = cache (take c.capacity ((c.given + 1, i) ∷ clear_of i c.entries)) c.capacity (c.given + 1) })

-- the entry with the same descriptor, if there is one
abbrev pub put_standing : Info → Cache → Option Entry → Put
put_standing i c None = put_new i c
put_standing i c (Some e) = record { inserted = Renewed; token = e.0; after = cache ((e.0, with_lease (later e.1.lease i.lease) e.1) ∷ without e.0 c.entries) c.capacity c.given }

-- the first entry that outdates i, if there is one
abbrev pub put_newer : Info → Cache → Option Entry → Put
put_newer i c None = put_standing i c (standing i c.entries)
put_newer i c (Some e) = record { inserted = Older e.1.desc.generation; token = 0; after = c }

-- an insertion; the serial 0 stands for no entry
abbrev pub put_in : Info → Cache → Put
put_in i c = put_newer i c (newer i c.entries)

-- ---- a lease told from outside

-- the entry of this serial, in its place, with the later of its lease and this one
abbrev pub leased : ℕ → Lease → List Entry → List Entry
leased s l [] = []
leased s l (e ∷ es) = cond (nat_eq s e.0) ((e.0, with_lease (later e.1.lease l) e.1) ∷ es) (e ∷ leased s l es)

abbrev pub is_later_than : Lease → Option Info → Bool
is_later_than l None = false
is_later_than l (Some e) = nat_lt e.lease.number l.number

-- ---- rows in the place of an entry

-- the rows inserted, the last first
abbrev pub put_all : List Info → Cache → Cache
put_all [] c = c
put_all (i ∷ is) c = (put_in i (put_all is c)).after

-- the last rows inserted, from some place on
abbrev pub PutFrom : List Info → Cache → Cache → Type 0
PutFrom is c d = (n : ℕ) × (d ≡ put_all (drop n is) c)
