-- A batch as it is asked: of all contents at once by the plain store, and of one range's contents by a delivered piece.
use Rattle.std.specs.Prelude.{◌≡◌, ℕ, Bool, List, [], ◌∷◌, ◌++◌, Option, Some, None, refl, pos}
use Rattle.ds_base.specs.declared.value.Stamp.{Stamp}
use Rattle.ds_base.specs.declared.value.TxnNo.{TxnNo}
use Rattle.ds_base.specs.declared.value.Value.TheVariants.{Int}
use Rattle.ds_kind.specs.Numbers.{numbers_from}
use Rattle.ds_kind.specs.Parts.{items_from}
use Rattle.ds_kind.specs.declared.batch.Batch.{Batch}
use Rattle.ds_kind.specs.declared.batch.Head.{Head}
use Rattle.ds_kind.specs.declared.batch.Item.{Item}
use Rattle.ds_kind.specs.declared.reply.Reply.{Reply}
use Rattle.ds_kind.specs.declared.reply.Body.TheVariants as Body
use Rattle.ds_kind.specs.declared.reply.Failure.{Failure}
use Rattle.ds_kind.specs.declared.request.Request.TheVariants.{Get, Put, Increment}
use Rattle.ds_cell.specs.declared.entry.At.{At}
use Rattle.ds_cell.specs.declared.verdict.ActFault.{ActFault}
use Rattle.ds_cell.specs.declared.verdict.ActFault.TheVariants as Fault
use Rattle.ds_cell.specs.Ask.{Cells, Asked, Failed, Gave}
use Rattle.ds_cell.specs.Replies.{body_of}
use Rattle.ds_cell.specs.Requests.{ask_request}
use Rattle.ds_cell.specs.Store.{Asker, WriteAt, write_all, under_number, settle_all}

-- the number of the transaction that a piece is of, 0 without one
abbrev pub txn_number : Option TxnNo → ℕ
txn_number None = 0
txn_number (Some t) = t.0

abbrev pub txn_of : Head → ℕ
txn_of h = txn_number h.txn

-- who asks under the number n
abbrev pub at_of : Head → ℕ → At
at_of h n = record { stamp = h.at; txn = record { 0 = txn_of h }; epoch = h.epoch; seq = record { 0 = n } }

-- the failure of the request at a position, at the key where it failed; no request is refused for want of memory
abbrev pub failure_of : ℕ → List ℕ → ActFault → Failure
failure_of i k (Fault.Condition v) = Failure.Condition i v
failure_of i k (Fault.TooOld t) = Failure.TooOld i k t
failure_of i k Fault.NotInteger = Failure.NotInteger i
failure_of i k Fault.Overflow = Failure.Overflow i
failure_of i k (Fault.Memory e) = Failure.Overflow i

-- what requests made, one after another: the contents, the writes, and the replies; or the first failure
pub data Made : Type 0 where
  Gives : Cells → List WriteAt → List Reply → Made
  Fails : Failure → Made

abbrev pub and_before : List WriteAt → List Reply → Made → Made
and_before ws rs (Fails f) = Fails f
and_before ws rs (Gives cells more later) = Gives cells (ws ++ more) (rs ++ later)

abbrev pub and_then : Made → (Cells → Made) → Made
and_then (Fails f) next = Fails f
and_then (Gives cells ws rs) next = and_before ws rs (next cells)

-- what one request made of the contents that it was asked of
abbrev pub made_by : Head → Item → Asked → Cells → Made
made_by h i (Failed k f) cells = Fails (failure_of i.pos k f)
made_by h i (Gave bits ws) cells =
    Gives (write_all (at_of h i.seq.0) ws cells) (under_number (at_of h i.seq.0) ws) (record { body = body_of i.request bits; resume = None } ∷ [])

-- one request, asked of all contents in its span at once
abbrev pub ask_item : Head → Item → Cells → Made
ask_item h i cells = made_by h i (ask_request i.request (at_of h i.seq.0) cells) cells

-- the requests in order, each of what those before it left
abbrev pub ask_all : Head → List Item → Cells → Made
ask_all h [] cells = Gives cells [] []
ask_all h (i ∷ is) cells = and_then (ask_item h i cells) (ask_all h is)

-- what a batch without a transaction wrote is committed with it, at its stamp
abbrev pub committed_by : Head → Option TxnNo → List WriteAt → Cells → Cells
committed_by h (Some t) ws cells = cells
committed_by h None ws cells = settle_all 0 (Some h.at) ws cells

-- the contents afterwards
abbrev pub finished : Head → List WriteAt → Cells → Cells
finished h ws cells = committed_by h h.txn ws cells

-- a batch with its numbers: who asks, with the limit as what is left, and the requests at their positions
pub record Asking : Type 0 where
  pub head : Head
  pub consistent : Bool
  pub items : List Item

-- the batch of this head, after the last number given
abbrev pub numbered : Head → ℕ → Batch → Asking
numbered h last b = record { head = h; consistent = b.consistent; items = items_from 0 b.requests (numbers_from last b.requests) }

abbrev pub head_of : Asker → Option ℕ → Head
head_of t limit = record { at = record { 0 = t.stamp }; txn = Some (record { 0 = t.number }); left = limit; epoch = t.epoch }

-- a batch with a stamp is a transaction of its own; one without is of the open transaction
abbrev pub asking_by : Option Stamp → Option Asker → Batch → Option Asking
asking_by (Some s) t b = Some (numbered (record { at = s; txn = None; left = b.limit; epoch = 0 }) 0 b)
asking_by None None b = None
asking_by None (Some t) b = Some (numbered (head_of t b.limit) t.last b)

-- the batch as it is asked, where this transaction is open
abbrev pub asking : Option Asker → Batch → Option Asking
asking t b = asking_by b.at t b

abbrev replies_of : Made → List Reply
replies_of (Gives cells ws rs) = rs
replies_of (Fails f) = []

a_write_is_read : replies_of (ask_all (record { at = record { 0 = 5 }; txn = Some (record { 0 = 1 }); left = None; epoch = 0 }) (record { pos = 0; seq = record { 0 = 1 }; request = Put (record { key = 97 ∷ []; value = Int (pos 7) }) } ∷ record { pos = 1; seq = record { 0 = 1 }; request = Get (record { key = 97 ∷ [] }) } ∷ []) []) ≡ record { body = Body.Unit; resume = None } ∷ record { body = Body.Got (Some (Int (pos 7))); resume = None } ∷ []
a_write_is_read = refl

sums_begin_at_nothing : replies_of (ask_all (record { at = record { 0 = 5 }; txn = None; left = None; epoch = 0 }) (record { pos = 0; seq = record { 0 = 1 }; request = Increment (record { key = 97 ∷ []; by = pos 2 }) } ∷ []) []) ≡ record { body = Body.Number (pos 2); resume = None } ∷ []
sums_begin_at_nothing = refl
