-- The rules that a batch must keep before anything is sent, and the first that it breaks.
use Rattle.std.specs.Prelude.{ℕ, Bool, true, false, not, ◌&&◌, List, [], ◌∷◌, Option, Some, None, length, nat_lt, ◌==◌, if◌then◌else◌}
use Rattle.std.specs.Option.{is_some, is_none, option_map, option_map_or}
use Rattle.std.specs.List.{position, last_or, list_any}
use Rattle.ds_kind.specs.declared.batch.Batch.{Batch}
use Rattle.ds_kind.specs.declared.illegal.Illegal.{Illegal}
use Rattle.ds_kind.specs.declared.illegal.Illegal.TheVariants as Breaks
use Rattle.ds_kind.specs.declared.request.Request.{Request}
use Rattle.ds_kind.specs.Asks.{has_proper_span, is_end, needs_txn, is_get_or_scan, knows_limit, fits_all, is_delete_range, overtakes, acts}
use Rattle.ds_kind.specs.Groups.{first_where, groups}
use Rattle.ds_kind.specs.Parts.{may_join, before_last}

-- the fault, where there is a reason for it
abbrev pub fault_if : Bool → Illegal → Option Illegal
fault_if reason fault = if reason then Some fault else None

-- the fault at a position, where there is a reason to look for one
abbrev pub fault_at : Bool → (ℕ → Illegal) → Option ℕ → Option Illegal
fault_at true fault at = option_map fault at
fault_at false fault at = None

-- the one just before ends above the start of this one
abbrev pub is_overtaken : List Request → Request → Bool
is_overtaken past r = option_map_or (λ q. overtakes q r) (last_or None past) false

-- it does not fit one before it
abbrev pub is_misfit : List Request → Request → Bool
is_misfit past r = not (fits_all past r)

-- there is no request
unfoldable pub empty : Batch → Option Illegal
empty b = fault_if (length b.requests == 0) Breaks.Empty

-- there are more than 256
unfoldable pub too_many : Batch → Option Illegal
too_many b = fault_if (nat_lt 256 (length b.requests)) Breaks.TooMany

-- a range that does not rise, or a point with no key after it
unfoldable pub bad_span : Batch → Option Illegal
bad_span b = fault_at true Breaks.BadSpan (position (λ r. not (has_proper_span r)) b.requests)

-- an end of the transaction that is not last
unfoldable pub end_txn_place : Batch → Option Illegal
end_txn_place b = fault_at true Breaks.EndTxnPlace (position is_end (before_last b.requests))

-- an end or a query of an intent, without a transaction
unfoldable pub needs_a_txn : Batch → Option Illegal
needs_a_txn b = fault_at (is_some b.at) Breaks.NeedsTxn (position needs_txn b.requests)

-- of the transaction, and not consistent
unfoldable pub inconsistent_txn : Batch → Option Illegal
inconsistent_txn b = fault_if (not b.consistent && is_none b.at) Breaks.InconsistentTxn

-- not consistent, and not only gets and scans
unfoldable pub inconsistent_write : Batch → Option Illegal
inconsistent_write b = fault_at (not b.consistent) Breaks.InconsistentWrite (position (λ r. not (is_get_or_scan r)) b.requests)

-- under a limit, a request that knows none
unfoldable pub limit_kind : Batch → Option Illegal
limit_kind b = fault_at (is_some b.limit) Breaks.LimitKind (position (λ r. not (knows_limit r)) b.requests)

-- under a limit, a request that does not fit one before it
unfoldable pub limit_mixed : Batch → Option Illegal
limit_mixed b = fault_at (is_some b.limit) Breaks.LimitMixed (first_where is_misfit b.requests)

-- under a limit and with a deletion over a span, a request that starts before the one before it ends
unfoldable pub limit_order : Batch → Option Illegal
limit_order b = fault_at (is_some b.limit && list_any is_delete_range b.requests) Breaks.LimitOrder (first_where is_overtaken b.requests)

-- without a transaction, something that acts, and more than one part
unfoldable pub no_txn_parts : Batch → Option Illegal
no_txn_parts b = fault_if (is_some b.at && list_any acts b.requests && nat_lt 1 (length (groups (may_join true) b.requests))) Breaks.NoTxnParts

abbrev pub first_of : List (Option Illegal) → Option Illegal
first_of [] = None
first_of (Some fault ∷ faults) = Some fault
first_of (None ∷ faults) = first_of faults

-- the first rule that the batch breaks, in this order
abbrev pub first_illegal : Batch → Option Illegal
first_illegal b = first_of (empty b ∷ too_many b ∷ bad_span b ∷ end_txn_place b ∷ needs_a_txn b ∷ inconsistent_txn b ∷ inconsistent_write b ∷ limit_kind b ∷ limit_mixed b ∷ limit_order b ∷ no_txn_parts b ∷ [])
