-- What happens to a world, as its keys and its records show it, and what it does to the store.
use Rattle.std.specs.Prelude.{◌≡◌, ℕ, List, [], ◌∷◌, ◌++◌, Option, None, if◌then◌else◌, refl}
use Rattle.std.specs.Option.{option_map}
use Rattle.ds_base.specs.Ordered.{key_eq}
use Rattle.ds_cell.specs.declared.entry.Version.{Version}
use Rattle.ds_cell.specs.Store.{StoreTxn}
use Rattle.ds_rule.specs.declared.event.Event.{Event}
use Rattle.ds_rule.specs.declared.record.TxnRecord.{TxnRecord}
use Rattle.ds_rule.specs.Journal.{Happening, Moved, Did}
use Rattle.ds_rule.specs.Keeping.{Keeps}
use Rattle.ds_rule.specs.Plain.{abort_txn}
use Rattle.ds_rule.specs.Records.{aborted, with_last}
use Rattle.ds_rule.specs.World.{World, cell_of}
use Rattle.ds_turn.specs.Settling.{after_foreigns}

-- what other clients write at the key
abbrev pub writes_by : List ℕ → Event → List Version
writes_by k (Event.Write q s v) = if key_eq q k then record { stamp = s; value = v } ∷ [] else []
writes_by k e = []

-- in all that happened, in its order
abbrev pub writes_at : List ℕ → List Happening → List Version
writes_at k [] = []
writes_at k (Moved e ∷ hs) = writes_by k e ++ writes_at k hs
writes_at k (Did s ∷ hs) = writes_at k hs

-- an abort ends the last record
abbrev pub records_by : Event → List TxnRecord → List TxnRecord
records_by Event.Abort rs = with_last aborted rs
records_by e rs = rs

-- and the store's transaction
abbrev pub txn_by : Event → Option StoreTxn → Option StoreTxn
txn_by Event.Abort o = option_map abort_txn o
txn_by e o = o

abbrev pub txn_after : List Happening → Option StoreTxn → Option StoreTxn
txn_after [] o = o
txn_after (Moved e ∷ hs) o = txn_after hs (txn_by e o)
txn_after (Did s ∷ hs) o = txn_after hs o

-- from w to v: other clients wrote vs at each key, the records are rs now, and no copy came or went
pub record Shows (vs : List ℕ → List Version) (rs : List TxnRecord) (w v : World) : Type 0 where
  pub keeps : Keeps v
  pub cells : (k : List ℕ) → cell_of v k ≡ after_foreigns (vs k) (cell_of w k)
  pub records : v.records ≡ rs
  pub copies : v.copies ≡ w.copies

-- a write is seen at its key alone
abbrev a_write : Event
a_write = Event.Write (97 ∷ []) (record { 0 = 9 }) None

seen_there : writes_at (97 ∷ []) (Moved (Event.Split (97 ∷ [])) ∷ Moved a_write ∷ []) ≡ record { stamp = record { 0 = 9 }; value = None } ∷ []
seen_there = refl

not_beside_it : writes_at (98 ∷ []) (Moved a_write ∷ []) ≡ []
not_beside_it = refl
