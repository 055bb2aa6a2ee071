-- The plain store: what one store would hold that knows no ranges.
use Rattle.std.specs.Prelude.{◌≡◌, ℕ, List, [], ◌∷◌, map, Option, None, refl}
use Rattle.std.specs.BTreeMap.{insert_entry}
use Rattle.ds_base.specs.Order.{key_cmp}
use Rattle.ds_base.specs.declared.value.Stamp.{Stamp}
use Rattle.ds_base.specs.declared.value.Value.{Value}
use Rattle.ds_kind.specs.declared.reply.TxnStatus.{TxnStatus}
use Rattle.ds_cell.specs.declared.entry.At.{At}
use Rattle.ds_cell.specs.declared.entry.Version.{Version}
use Rattle.ds_cell.specs.declared.entry.Written.{Written}
use Rattle.ds_cell.specs.Content.{Content, no_content}
use Rattle.ds_cell.specs.Change.{wrote, made, settled}
use Rattle.ds_cell.specs.Ask.{Cells, content_at}

-- the contents with the one at the key changed, or begun
abbrev pub put_cell : List ℕ → (Content → Content) → Cells → Cells
put_cell k f cells = insert_entry key_cmp cells k (f (content_at k cells))

-- a transaction's write at a key
pub record WriteAt : Type 0 where
  pub key : List ℕ
  pub write : Written

-- the contents after these writes of a request, one after another
abbrev pub write_all : At → List (List ℕ × Option Value) → Cells → Cells
write_all at [] cells = cells
write_all at (w ∷ ws) cells = write_all at ws (put_cell w.0 (wrote at w.1) cells)

-- these writes, under the request's number
abbrev pub under_number : At → List (List ℕ × Option Value) → List WriteAt
under_number at ws = map (λ w. record { key = w.0; write = record { seq = at.seq; value = w.1 } }) ws

-- the contents after the transaction's intents at the keys of these writes are settled
abbrev pub settle_all : ℕ → Option Stamp → List WriteAt → Cells → Cells
settle_all txn commit [] cells = cells
settle_all txn commit (w ∷ ws) cells = settle_all txn commit ws (put_cell w.key (settled txn commit) cells)

-- a version joins those of its key, unless one stands at its stamp
abbrev pub with_version : Version → Content → Content
with_version v c = record c { versions = made c.versions v }

-- how a transaction stands towards its client: its batches are answered; the one of this number failed, and only a
-- rollback may follow; nobody knows whether its last batch acted, which would have made these writes or would have
-- failed; or it is over
pub data Mode : Type 0 where
  Live : Mode
  FailedSince : ℕ → Mode
  Unknown : Option (List WriteAt) → Mode
  OverWith : TxnStatus → Mode

-- how a transaction's record stands
pub data Fate : Type 0 where
  Pending : Fate
  Committed : Fate
  Aborted : Fate

-- who asks in a transaction: its number, stamp and epoch, and the last number that it gave to a request
pub record Asker : Type 0 where
  pub number : ℕ
  pub stamp : ℕ
  pub epoch : ℕ
  pub last : ℕ

-- the open transaction, with the count of its batches
pub record StoreTxn : Type 0 where
  pub asker : Asker
  pub fate : Fate
  pub mode : Mode
  pub batches : ℕ

-- what stands at each key: its versions, and the writes of the open transaction; that transaction; and how many have begun
pub record Store : Type 0 where
  pub cells : Cells
  pub txn : Option StoreTxn
  pub begun : ℕ

abbrev pub empty_store : Store
empty_store = record { cells = []; txn = None; begun = 0 }

-- a version of the key 97 stands at its stamp alone, and at no other key
one_version : (content_at (97 ∷ []) (put_cell (97 ∷ []) (with_version (record { stamp = record { 0 = 3 }; value = None })) [])).versions ≡ record { stamp = record { 0 = 3 }; value = None } ∷ []
one_version = refl

nothing_beside : content_at (98 ∷ []) (put_cell (97 ∷ []) (with_version (record { stamp = record { 0 = 3 }; value = None })) []) ≡ no_content
nothing_beside = refl
