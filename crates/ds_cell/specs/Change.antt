-- How a cell changes.
use Rattle.std.specs.Prelude.{ℕ, Bool, List, [], ◌∷◌, ◌++◌, length, nat_lt, ◌==◌, if◌then◌else◌, Option, Some, None, position, unwrap_or, fold}
use Rattle.std.specs.List.{insert, list_any}
use Rattle.ds_base.specs.declared.value.Value.{Value}
use Rattle.ds_base.specs.declared.value.Stamp.{Stamp}
use Rattle.ds_cell.specs.declared.entry.Version.{Version}
use Rattle.ds_cell.specs.declared.entry.Written.{Written}
use Rattle.ds_cell.specs.declared.entry.At.{At}
use Rattle.ds_cell.specs.Content.{Content}
use Rattle.ds_cell.specs.Seen.{last_of, held, own}

-- the first place at which p passes, or the end
abbrev pub place_before : {X : Type 0} → (X → Bool) → List X → ℕ
place_before p xs = unwrap_or (position p xs) (length xs)

-- the writes with one more, before the first of a greater number
abbrev pub with_write : Written → List Written → List Written
with_write w h = insert h (place_before (λ v. nat_lt w.seq.0 v.seq.0) h) w

-- the cell after a write, which takes the place of another transaction's or epoch's writes
abbrev pub wrote : At → Option Value → Content → Content
wrote at w c =
    record c { owner = at.txn.0; epoch = at.epoch; history = with_write (record { seq = at.seq; value = w }) (own at c) }

-- the versions with one more, unless one stands at its stamp
abbrev pub made : List Version → Version → List Version
made vs v =
    if list_any (λ u. u.stamp.0 == v.stamp.0) vs then vs else insert vs (place_before (λ u. nat_lt v.stamp.0 u.stamp.0) vs) v

abbrev pub foreign_by : Option Written → Version → Content → Content
foreign_by None v c = record c { versions = made c.versions v }
foreign_by (Some w) v c = record c { waiting = c.waiting ++ v ∷ [] }

-- the cell after a foreign write, which waits where an intent stands
abbrev pub after_foreign : Version → Content → Content
after_foreign v c = foreign_by (last_of c.history) v c

-- the versions that an intent becomes, in order: its last write at the commit's stamp, if there is a commit, and then the
-- writes that waited
abbrev pub settling : Option Stamp → Written → List Version → List Version
settling (Some t) w waiting = record { stamp = t; value = w.value } ∷ waiting
settling None w waiting = waiting

abbrev pub settled_by : Option Stamp → Option Written → Content → Content
settled_by commit None c = c
settled_by commit (Some w) c =
    record c { versions = fold made c.versions (settling commit w c.waiting); history = []; waiting = [] }

-- the cell after the transaction's intent is settled: its last write becomes a version at the commit's stamp,
-- or is dropped where there is no commit, and then the waiting writes are made in order
abbrev pub settled : ℕ → Option Stamp → Content → Content
settled txn commit c = settled_by commit (last_of (held txn c)) c
