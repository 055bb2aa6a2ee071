-- What a request sees of a key.
use Rattle.std.specs.Prelude.{◌≡◌, ℕ, ◌<◌, ◌≤◌, Bool, true, List, [], ◌∷◌, Contains, nat_le, nat_lt, ◌&&◌, ◌==◌, if◌then◌else◌, Option, Some, None, find, reverse, fold}
use Rattle.ds_base.specs.declared.value.Value.{Value}
use Rattle.ds_base.specs.declared.value.Stamp.{Stamp}
use Rattle.ds_cell.specs.declared.entry.Version.{Version}
use Rattle.ds_cell.specs.declared.entry.Written.{Written}
use Rattle.ds_cell.specs.declared.entry.At.{At}
use Rattle.ds_cell.specs.Content.{Content}

-- the last element that passes
abbrev pub last_where : {X : Type 0} → (X → Bool) → List X → Option X
last_where p xs = find p (reverse xs)

-- the last element
abbrev pub last_of : {X : Type 0} → List X → Option X
last_of xs = last_where (λ _. true) xs

-- the writes of the transaction that stand here
abbrev pub held : ℕ → Content → List Written
held txn c = if c.owner == txn then c.history else []

-- the writes that count for a request: those of its own transaction and epoch
abbrev pub own : At → Content → List Written
own at c = if c.epoch == at.epoch then held at.txn.0 c else []

-- the write with the greatest number not above n
abbrev pub newest : ℕ → List Written → Option Written
newest n h = last_where (λ w. nat_le w.seq.0 n) h

-- the version with the greatest stamp not above s
abbrev pub version_at : ℕ → List Version → Option Version
version_at s vs = last_where (λ v. nat_le v.stamp.0 s) vs

-- the write under the number n
abbrev pub under : ℕ → List Written → Option Written
under n h = find (λ w. w.seq.0 == n) h

abbrev pub value_seen : Option Written → Option Version → Option Value
value_seen (Some w) v = w.value
value_seen None (Some v) = v.value
value_seen None None = None

-- the value seen: the newest own write up to the number n, else the version at the stamp; a deletion is no value
abbrev pub seen : At → ℕ → Content → Option Value
seen at n c = value_seen (newest n (own at c)) (version_at at.stamp.0 c.versions)

-- t, or the version's stamp where that is at least s and above t
abbrev pub raised : ℕ → Option Stamp → Version → Option Stamp
raised s None v = if nat_le s v.stamp.0 then Some v.stamp else None
raised s (Some t) v = if nat_le s v.stamp.0 && nat_lt t.0 v.stamp.0 then Some v.stamp else Some t

abbrev pub stamp_from : ℕ → Option Version → Option Stamp
stamp_from s None = None
stamp_from s (Some v) = raised s None v

-- the greatest stamp at or above s of a version or a waiting write
abbrev pub newest_from : ℕ → Content → Option Stamp
newest_from s c = fold (raised s) (stamp_from s (last_of c.versions)) c.waiting

abbrev pub unless_written : List Written → Option Stamp → Option Stamp
unless_written [] t = t
unless_written (w ∷ ws) t = None

-- what stands in the way of a write: that stamp, unless the request's transaction has a write here
abbrev pub too_old : At → Content → Option Stamp
too_old at c = unless_written (own at c) (newest_from at.stamp.0 c)

-- the element is the one with the greatest number not above n, or there is none up to n
abbrev pub IsLatest : {X : Type 0} → (X → ℕ) → ℕ → List X → Option X → Type 0
IsLatest f n xs None = (x : _) → Contains xs x → n < f x
IsLatest f n xs (Some w) = Contains xs w × (f w ≤ n) × ((x : _) → Contains xs x → f x ≤ n → f x ≤ f w)

-- t is the greatest stamp of these, and at or above s; or all are below s
abbrev pub IsNewestFrom : ℕ → List Version → Option Stamp → Type 0
IsNewestFrom s vs None = (v : Version) → Contains vs v → v.stamp.0 < s
IsNewestFrom s vs (Some t) =
    ((v : Version) × Contains vs v × (v.stamp ≡ t)) × (s ≤ t.0) × ((v : Version) → Contains vs v → v.stamp.0 ≤ t.0)
