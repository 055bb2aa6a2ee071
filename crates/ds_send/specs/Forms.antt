-- The batches that can be sent over ranges that may move.
use Rattle.std.specs.Prelude.{◌≡◌, Bool, true, false, ◌&&◌, ◌||◌, [], ◌∷◌, Option, Some, None, is_none, pos, refl}
use Rattle.std.specs.List.{list_all}
use Rattle.ds_base.specs.declared.value.Stamp.{Stamp}
use Rattle.ds_base.specs.declared.value.Value.TheVariants.{Int}
use Rattle.ds_kind.specs.Asks.{is_get_or_scan}
use Rattle.ds_kind.specs.declared.batch.Batch.{Batch}
use Rattle.ds_kind.specs.declared.request.Request.{Request}
use Rattle.ds_kind.specs.declared.request.Request.TheVariants.{AdminSplit, AdminTransferLease, ConditionalPut, Delete, DeleteRange, Increment, InitPut, Put, ReverseScan}

-- a write of a value
abbrev pub is_value_write : Request → Bool
is_value_write (Put a) = true
is_value_write (ConditionalPut a) = true
is_value_write (InitPut a) = true
is_value_write (Increment a) = true
is_value_write (Delete a) = true
is_value_write (DeleteRange a) = true
is_value_write r = false

-- a split of a range, or a transfer of its lease
abbrev pub is_admin : Request → Bool
is_admin (AdminSplit a) = true
is_admin (AdminTransferLease a) = true
is_admin r = false

-- what a batch with a stamp may ask: a read, a write of a value, or a change of a range
abbrev pub can_ask_alone : Request → Bool
can_ask_alone r = is_get_or_scan r || is_value_write r || is_admin r

-- of the transaction only reads
abbrev pub can_ask : Option Stamp → Request → Bool
can_ask None r = is_get_or_scan r
can_ask (Some s) r = can_ask_alone r

-- no limit, and only such requests
abbrev pub can_send : Batch → Bool
can_send b = is_none b.limit && list_all (can_ask b.at) b.requests

-- a put and a split at a stamp, and a reverse scan of the transaction

abbrev a_put : Request
a_put = Put (record { key = 97 ∷ []; value = Int (pos 7) })

abbrev asks_one : Option Stamp → Request → Batch
asks_one at r = record { at = at; consistent = true; limit = None; requests = r ∷ [] }

a_put_at_a_stamp : can_send (asks_one (Some (record { 0 = 5 })) a_put) ≡ true
a_put_at_a_stamp = refl

a_split_at_a_stamp : can_send (asks_one (Some (record { 0 = 5 })) (AdminSplit (record { key = 97 ∷ [] }))) ≡ true
a_split_at_a_stamp = refl

a_reverse_scan_of_the_transaction : can_send (asks_one None (ReverseScan (record { start = 97 ∷ []; end = 98 ∷ [] }))) ≡ true
a_reverse_scan_of_the_transaction = refl

no_put_of_the_transaction : can_send (asks_one None a_put) ≡ false
no_put_of_the_transaction = refl

not_under_a_limit : can_send (record (asks_one (Some (record { 0 = 5 })) a_put) { limit = Some 3 }) ≡ false
not_under_a_limit = refl
