-- Worked examples of the definitions, some that hold and some that must not.
use Rattle.std.proofs.Common.{◌≡◌, ℕ, pos, false, [], ◌∷◌, refl, Some, None}
use Rattle.ds_base.specs.declared.value.Value.TheVariants.{Text, Int}
use Rattle.ds_kind.specs.declared.reply.Body.TheVariants.{Rows, Gone as Keys, Found}
use Rattle.ds_kind.specs.declared.request.Request.TheVariants.{Scan, ReverseScan, Put, Increment, DeleteRange, QueryIntent}
use Rattle.ds_cell.specs.declared.entry.At.{At}
use Rattle.ds_cell.specs.declared.entry.Version.{Version}
use Rattle.ds_cell.specs.declared.entry.Written.{Written}
use Rattle.ds_cell.specs.declared.verdict.Verdict.TheVariants.{Keep, Put as Write, Refuse}
use Rattle.ds_cell.specs.declared.verdict.Bit.TheVariants.{Nothing, Value as Shown, Gone}
use Rattle.ds_cell.specs.declared.verdict.ActFault.TheVariants.{TooOld, NotInteger}
use Rattle.ds_cell.specs.Content.{Content, no_content}
use Rattle.ds_cell.specs.Seen.{seen, too_old}
use Rattle.ds_cell.specs.Change.{made, after_foreign, settled}
use Rattle.ds_cell.specs.Ask.{Cells, Failed, Gave}
use Rattle.ds_cell.specs.Requests.{deed_of, ask_request}
use Rattle.ds_cell.specs.Replies.{body_of}

-- transaction 1 at stamp 10
abbrev pub me : ℕ → At
me n = record { stamp = record { 0 = 10 }; txn = record { 0 = 1 }; seq = record { 0 = n }; epoch = 0 }

abbrev pub version : ℕ → ℕ → Version
version s n = record { stamp = record { 0 = s }; value = Some (Int (pos n)) }

abbrev write : ℕ → ℕ → Written
write s n = record { seq = record { 0 = s }; value = Some (Int (pos n)) }

abbrev deletion : ℕ → Written
deletion s = record { seq = record { 0 = s }; value = None }

-- a version 7 at stamp 4, and of transaction 1 a write 9 under number 2 and a deletion under 5
abbrev cell : Content
cell = record { versions = version 4 7 ∷ []; owner = 1; epoch = 0; history = write 2 9 ∷ deletion 5 ∷ []; waiting = [] }

own_write_seen : seen (me 3) 3 cell ≡ Some (Int (pos 9))
own_write_seen = refl

version_seen_below : seen (me 1) 1 cell ≡ Some (Int (pos 7))
version_seen_below = refl

deletion_is_no_value : seen (me 5) 5 cell ≡ None
deletion_is_no_value = refl

-- transaction 2 sees the version alone, and nothing before its stamp
other_sees_version : seen (record (me 3) { txn = record { 0 = 2 } }) 3 cell ≡ Some (Int (pos 7))
other_sees_version = refl

next_epoch_sees_version : seen (record (me 3) { epoch = 1 }) 3 cell ≡ Some (Int (pos 7))
next_epoch_sees_version = refl

nothing_before : seen (record (me 1) { stamp = record { 0 = 3 } }) 1 cell ≡ None
nothing_before = refl

-- a version at or above the stamp stands in the way, unless the transaction has a write here
newer_in_the_way : too_old (me 1) (record no_content { versions = version 10 1 ∷ version 12 2 ∷ [] }) ≡ Some (record { 0 = 12 })
newer_in_the_way = refl

older_is_not : too_old (me 1) (record no_content { versions = version 9 1 ∷ [] }) ≡ None
older_is_not = refl

not_after_a_write : too_old (me 6) (record cell { versions = version 12 2 ∷ [] }) ≡ None
not_after_a_write = refl

-- versions go by stamp, and the first at a stamp stays
made_in_order : made (version 4 7 ∷ version 8 1 ∷ []) (version 6 5) ≡ version 4 7 ∷ version 6 5 ∷ version 8 1 ∷ []
made_in_order = refl

first_stays : made (version 4 7 ∷ []) (version 4 8) ≡ version 4 7 ∷ []
first_stays = refl

-- a foreign write waits where an intent stands
waits : after_foreign (version 11 3) cell ≡ record cell { waiting = version 11 3 ∷ [] }
waits = refl

-- settled, the last write is a version, and what waits is made
settled_last : settled 1 (Some (record { 0 = 10 })) (record cell { history = write 2 9 ∷ write 3 6 ∷ []; waiting = version 11 3 ∷ [] })
    ≡ record cell { versions = version 4 7 ∷ version 10 6 ∷ version 11 3 ∷ []; history = [] }
settled_last = refl

not_of_another : settled 2 None cell ≡ cell
not_of_another = refl

-- an increment adds to what is seen below its number, and gives the number again under it
adds_to_seen : deed_of (Increment (record { key = []; by = pos 5 })) (me 3) cell ≡ Write (Some (Int (pos 14))) (Shown (Some (Int (pos 14))))
adds_to_seen = refl

gives_it_again : deed_of (Increment (record { key = []; by = pos 5 })) (me 2) cell ≡ Keep (Shown (Some (Int (pos 9))))
gives_it_again = refl

no_number : deed_of (Increment (record { key = []; by = pos 5 })) (me 1) (record no_content { versions = (record { stamp = record { 0 = 4 }; value = Some (Text []) }) ∷ [] }) ≡ Refuse NotInteger
no_number = refl

-- keys a and c
abbrev cells : Cells
cells = (97 ∷ [], cell) ∷ (99 ∷ [], record no_content { versions = version 12 2 ∷ [] }) ∷ []

scan_shows : ask_request (Scan (record { start = 97 ∷ []; end = 122 ∷ [] })) (me 3) cells
    ≡ Gave ((97 ∷ [], Shown (Some (Int (pos 9)))) ∷ (99 ∷ [], Shown None) ∷ []) []
scan_shows = refl

-- a point is asked also where nothing stands
put_writes : ask_request (Put (record { key = 98 ∷ []; value = Int (pos 1) })) (me 6) cells
    ≡ Gave ((98 ∷ [], Nothing) ∷ []) ((98 ∷ [], Some (Int (pos 1))) ∷ [])
put_writes = refl

put_too_old : ask_request (Put (record { key = 99 ∷ []; value = Int (pos 1) })) (me 6) cells ≡ Failed (99 ∷ []) (TooOld (record { 0 = 12 }))
put_too_old = refl

-- replies
rows_shown : body_of (ReverseScan (record { start = []; end = [] })) ((97 ∷ [], Shown (Some (Int (pos 9)))) ∷ (98 ∷ [], Shown None) ∷ (99 ∷ [], Shown (Some (Int (pos 2)))) ∷ [])
    ≡ Rows (record { key = 99 ∷ []; value = Int (pos 2) } ∷ record { key = 97 ∷ []; value = Int (pos 9) } ∷ [])
rows_shown = refl

keys_gone : body_of (DeleteRange (record { start = []; end = [] })) ((97 ∷ [], Nothing) ∷ (98 ∷ [], Gone) ∷ []) ≡ Keys ((98 ∷ []) ∷ [])
keys_gone = refl

not_found : body_of (QueryIntent (record { key = []; seq = record { 0 = 3 } })) (([], Nothing) ∷ []) ≡ Found false
not_found = refl
