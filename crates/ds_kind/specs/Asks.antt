-- What the rules of a batch ask of one request.
use Rattle.std.specs.Prelude.{ℕ, List, Bool, true, false, ◌&&◌, ◌||◌, length, nat_le}
use Rattle.std.specs.List.{list_all}
use Rattle.ds_base.specs.Order.{key_lt, bound}
use Rattle.ds_kind.specs.Flags.{flags_of, fit, is_numbered}
use Rattle.ds_kind.specs.Reach.{Reach, At, Over}
use Rattle.ds_kind.specs.Request.{kind_of, reach_of, span_of}
use Rattle.ds_kind.specs.declared.flags.Flags.{Flags}
use Rattle.ds_kind.specs.declared.request.Request.{Request}
use Rattle.ds_kind.specs.declared.request.Request.TheVariants.{Get, Scan, ReverseScan, DeleteRange, EndTxn, QueryIntent}

abbrev pub flags_at : Request → Flags
flags_at r = flags_of (kind_of r)

abbrev pub is_end : Request → Bool
is_end (EndTxn a) = true
is_end r = false

abbrev pub is_reverse_scan : Request → Bool
is_reverse_scan (ReverseScan a) = true
is_reverse_scan r = false

abbrev pub is_delete_range : Request → Bool
is_delete_range (DeleteRange a) = true
is_delete_range r = false

-- it speaks of a transaction
abbrev pub needs_txn : Request → Bool
needs_txn (EndTxn a) = true
needs_txn (QueryIntent a) = true
needs_txn r = false

abbrev pub is_get_or_scan : Request → Bool
is_get_or_scan (Get a) = true
is_get_or_scan (Scan a) = true
is_get_or_scan (ReverseScan a) = true
is_get_or_scan r = false

-- it may stand under a limit
abbrev pub knows_limit : Request → Bool
knows_limit (Get a) = true
knows_limit (Scan a) = true
knows_limit (ReverseScan a) = true
knows_limit (DeleteRange a) = true
knows_limit r = false

-- it writes, or stands alone
abbrev pub acts : Request → Bool
acts r = (flags_at r).write || (flags_at r).alone

abbrev pub is_alone : Request → Bool
is_alone r = (flags_at r).alone

abbrev pub takes_number : Request → Bool
takes_number r = is_numbered (flags_at r)

-- the key after it is a key too
abbrev pub has_room : List ℕ → Bool
has_room k = nat_le (length k) 64 && key_lt k bound

-- a point's key has room, and a range's start lies below its end
abbrev pub is_proper : Reach → Bool
is_proper (At k) = has_room k
is_proper (Over s e) = key_lt s e

abbrev pub has_proper_span : Request → Bool
has_proper_span r = is_proper (reach_of r)

-- the first one's span ends above the start of the second one's
abbrev pub overtakes : Request → Request → Bool
overtakes a b = key_lt (span_of b).start (span_of a).end

-- the request may stand in one part with each of these
abbrev pub fits_all : List Request → Request → Bool
fits_all rs r = list_all (λ q. fit (flags_at q) (flags_at r)) rs
