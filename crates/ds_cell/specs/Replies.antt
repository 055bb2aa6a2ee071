-- What a reply says, made of the answers at the keys.
use Rattle.std.specs.Prelude.{ℕ, ℤ, Bool, true, false, List, [], ◌∷◌, ◌++◌, reverse, if◌then◌else◌, pos, Option, Some, None}
use Rattle.ds_base.specs.declared.value.Value.{Value}
use Rattle.ds_base.specs.declared.value.Value.TheVariants.{Text, Int}
use Rattle.ds_kind.specs.declared.reply.Row.{Row}
use Rattle.ds_kind.specs.declared.reply.Body.{Body}
use Rattle.ds_kind.specs.declared.reply.Body.TheVariants.{Got, Rows, Unit as Done, Number, Gone as Keys, Ended, Found}
use Rattle.ds_kind.specs.declared.reply.TxnStatus.TheVariants.{Committed, Aborted}
use Rattle.ds_kind.specs.declared.request.Request.{Request}
use Rattle.ds_kind.specs.declared.request.Request.TheVariants.{Get, Scan, ReverseScan, Put, ConditionalPut, InitPut, Increment, Delete, DeleteRange, EndTxn, QueryIntent, ResolveIntent, ResolveIntentRange, AdminSplit, AdminTransferLease}
use Rattle.ds_cell.specs.declared.verdict.Bit.{Bit}
use Rattle.ds_cell.specs.declared.verdict.Bit.TheVariants.{Nothing, Value as Shown, Gone, Hit}

-- answers by key, in the order of the keys
abbrev pub Bits : Type 0
Bits = List (List ℕ × Bit)

abbrev pub with_row : List ℕ → Bit → List Row → List Row
with_row k Nothing rows = rows
with_row k (Shown None) rows = rows
with_row k (Shown (Some v)) rows = record { key = k; value = v } ∷ rows
with_row k Gone rows = rows
with_row k Hit rows = rows

-- the keys that showed a value, with it
abbrev pub rows_of : Bits → List Row
rows_of [] = []
rows_of (p ∷ ps) = with_row p.0 p.1 (rows_of ps)

abbrev pub with_gone : List ℕ → Bit → List (List ℕ) → List (List ℕ)
with_gone k Nothing keys = keys
with_gone k (Shown v) keys = keys
with_gone k Gone keys = k ∷ keys
with_gone k Hit keys = keys

-- the keys that were deleted
abbrev pub gone_keys : Bits → List (List ℕ)
gone_keys [] = []
gone_keys (p ∷ ps) = with_gone p.0 p.1 (gone_keys ps)

abbrev pub value_of : Bit → Option Value
value_of Nothing = None
value_of (Shown v) = v
value_of Gone = None
value_of Hit = None

-- the value that the one key of a point showed
abbrev pub value_in : Bits → Option Value
value_in [] = None
value_in (p ∷ ps) = value_of p.1

abbrev pub number_of : Option Value → ℤ
number_of None = pos 0
number_of (Some (Text t)) = pos 0
number_of (Some (Int n)) = n

abbrev pub is_hit : Bit → Bool
is_hit Nothing = false
is_hit (Shown v) = false
is_hit Gone = false
is_hit Hit = true

abbrev pub found_in : Bits → Bool
found_in [] = false
found_in (p ∷ ps) = is_hit p.1

-- the body of a request's reply
abbrev pub body_of : Request → Bits → Body
body_of (Get a) bits = Got (value_in bits)
body_of (Scan a) bits = Rows (rows_of bits)
body_of (ReverseScan a) bits = Rows (reverse (rows_of bits))
body_of (Put a) bits = Done
body_of (ConditionalPut a) bits = Done
body_of (InitPut a) bits = Done
body_of (Increment a) bits = Number (number_of (value_in bits))
body_of (Delete a) bits = Done
body_of (DeleteRange a) bits = Keys (gone_keys bits)
body_of (EndTxn a) bits = Ended (if a.commit then Committed else Aborted)
body_of (QueryIntent a) bits = Found (found_in bits)
body_of (ResolveIntent a) bits = Done
body_of (ResolveIntentRange a) bits = Done
body_of (AdminSplit a) bits = Done
body_of (AdminTransferLease a) bits = Done
