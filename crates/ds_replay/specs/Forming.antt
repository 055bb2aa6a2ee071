-- What a batch may ask beside an open transaction, what may happen beside it, and the stamp that foreign writes stay above.
use Rattle.std.specs.Prelude.{◌≡◌, ℕ, max, Bool, true, false, not, ◌&&◌, ◌||◌, List, [], ◌∷◌, length, nat_le, nat_lt, Option, Some, None, refl}
use Rattle.std.specs.List.{list_all, list_any}
use Rattle.std.specs.Option.{option_map}
use Rattle.ds_base.specs.declared.value.Stamp.{Stamp}
use Rattle.ds_desc.specs.Replicas.{are_replicas}
use Rattle.ds_kind.specs.Asks.{has_room, is_get_or_scan}
use Rattle.ds_kind.specs.declared.request.Request.{Request}
use Rattle.ds_kind.specs.declared.request.Request.TheVariants.{AdminSplit, ReverseScan}
use Rattle.ds_cell.specs.Store.{Asker}
use Rattle.ds_rule.specs.declared.event.Event.{Event}
use Rattle.ds_rule.specs.declared.event.Event.TheVariants.{Write, Split, Merge, Lease, Move, Stale, Abort, Arrive, LoseRequest, LoseReply, Copy, Restart}
use Rattle.ds_rule.specs.declared.event.Timed.{Timed}
use Rattle.ds_rule.specs.Blocks.{never_fall}
use Rattle.ds_mean.specs.Ready.{goes_beside}

-- ---- beside a transaction that is open at a stamp, if one is

-- the stamp of whoever asks
abbrev pub stamp_in : Option Asker → Option ℕ
stamp_in t = option_map (λ x. x.stamp) t

-- a batch without a stamp is of the transaction
abbrev pub belongs : Option ℕ → Option Stamp → Bool
belongs None None = false
belongs None (Some s) = true
belongs (Some t) at = true

-- a batch with a stamp of its own reads below the transaction's, or does what needs no transaction
abbrev pub goes_below : Option ℕ → Option Stamp → List Request → Bool
goes_below o None rs = true
goes_below None (Some s) rs = true
goes_below (Some t) (Some s) rs = list_all goes_beside rs && (not (list_any is_get_or_scan rs) || nat_lt s.0 t)

-- other clients' writes stay above the transaction's stamp, and beside a batch above its own
abbrev pub floor_at : Option ℕ → Option Stamp → ℕ
floor_at None None = 0
floor_at None (Some s) = s.0
floor_at (Some t) None = t
floor_at (Some t) (Some s) = max t s.0

-- ---- what happens

-- a write above the floor, at a key with room for one more byte; a split, a merge, a lease, a move, an old descriptor
abbrev pub is_move : ℕ → Event → Bool
is_move floor (Write k s v) = nat_lt floor s.0 && has_room k
is_move floor (Split k) = true
is_move floor (Merge k) = true
is_move floor (Lease k n) = true
is_move floor (Move k ns) = are_replicas ns
is_move floor (Stale k b) = true
is_move floor Abort = false
is_move floor (Arrive c) = false
is_move floor (LoseRequest c) = false
is_move floor (LoseReply c) = false
is_move floor (Copy c) = false
is_move floor (Restart t) = false

-- beside a batch at most 1,000 of them, by rising step
abbrev pub may_happen : ℕ → List Timed → Bool
may_happen floor ts = never_fall 0 ts && (list_all (λ t. is_move floor t.event) ts && nat_le (length ts) 1000)

-- ---- examples

a_split_beside_a_transaction : goes_below (Some 7) (Some (record { 0 = 9 })) (AdminSplit (record { key = 97 ∷ [] }) ∷ []) ≡ true
a_split_beside_a_transaction = refl

no_read_above_it : goes_below (Some 7) (Some (record { 0 = 7 })) (ReverseScan (record { start = 97 ∷ []; end = 98 ∷ [] }) ∷ []) ≡ false
no_read_above_it = refl

a_write_above : may_happen 5 (record { at = 2; event = Write (97 ∷ []) (record { 0 = 6 }) None } ∷ []) ≡ true
a_write_above = refl

no_write_at_the_floor : may_happen 5 (record { at = 2; event = Write (97 ∷ []) (record { 0 = 5 }) None } ∷ []) ≡ false
no_write_at_the_floor = refl

no_loss : may_happen 5 (record { at = 2; event = LoseReply None } ∷ []) ≡ false
no_loss = refl
