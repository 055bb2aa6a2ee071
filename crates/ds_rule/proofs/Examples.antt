-- Worked examples of the definitions, some that hold and some that must not: worlds, deliveries and events. The values at
-- the top are those of the other examples too.
use Rattle.std.proofs.Common.{◌≡◌, ℕ, ◌+◌, ◌==◌, Bool, true, false, List, [], ◌∷◌, length, Some, None, pos, refl}
pub use Rattle.ds_base.proofs.TestFacts.{differs}
use Rattle.ds_base.specs.Order.{bound}
use Rattle.ds_base.specs.Ordered.{key_eq}
use Rattle.ds_base.specs.declared.value.Dir.TheVariants.{Forward, Reverse}
use Rattle.ds_base.specs.declared.value.Value.TheVariants.{Int}
use Rattle.ds_desc.specs.declared.desc.Info.{Info}
use Rattle.ds_desc.specs.declared.desc.RangeDesc.{RangeDesc}
use Rattle.ds_desc.specs.declared.refusal.Refusal.TheVariants.{NotFound, NotLease, Mismatch}
use Rattle.ds_kind.specs.Numbers.{numbers_from}
use Rattle.ds_kind.specs.Parts.{items_from}
use Rattle.ds_kind.specs.declared.batch.Batch.{Batch}
use Rattle.ds_kind.specs.declared.batch.Head.{Head}
use Rattle.ds_kind.specs.declared.batch.Piece.{Piece}
use Rattle.ds_kind.specs.declared.reply.Body.{Body}
use Rattle.ds_kind.specs.declared.reply.Failure.TheVariants as Failure
use Rattle.ds_kind.specs.declared.reply.Reply.{Reply}
use Rattle.ds_kind.specs.declared.reply.Row.{Row}
use Rattle.ds_kind.specs.declared.request.Request.{Request}
use Rattle.ds_kind.specs.declared.request.Request.TheVariants.{Get, Scan, ReverseScan, Put}
use Rattle.ds_cell.specs.declared.entry.Version.{Version}
use Rattle.ds_cell.specs.declared.entry.Written.{Written}
use Rattle.ds_cell.specs.Content.{Content, no_content}
use Rattle.ds_rule.specs.declared.answer.Answer.{Answer}
use Rattle.ds_rule.specs.declared.answer.Answer.TheVariants.{Done, Failed, Refused}
use Rattle.ds_rule.specs.declared.event.Event.{Event}
use Rattle.ds_rule.specs.declared.record.RecordStatus.{RecordStatus}
use Rattle.ds_rule.specs.declared.record.RecordStatus.TheVariants as Status
use Rattle.ds_rule.specs.declared.record.TxnRecord.{TxnRecord}
use Rattle.ds_rule.specs.Asking.{Asking, numbered}
use Rattle.ds_rule.specs.Deliver.{deliver_answer, deliver_world}
use Rattle.ds_rule.specs.Moves.{moved}
use Rattle.ds_rule.specs.World.{World, Range, Tiles, cell_of, look_rows, look_world}

-- ---- the values of all examples

abbrev pub key_a : List ℕ
key_a = 97 ∷ []

abbrev pub key_b : List ℕ
key_b = 98 ∷ []

abbrev pub key_g : List ℕ
key_g = 103 ∷ []

abbrev pub key_m : List ℕ
key_m = 109 ∷ []

abbrev pub key_z : List ℕ
key_z = 122 ∷ []

-- a value of a stamp, and a write under a number
abbrev pub version : ℕ → ℕ → Version
version s n = record { stamp = record { 0 = s }; value = Some (Int (pos n)) }

abbrev pub write : ℕ → ℕ → Written
write s n = record { seq = record { 0 = s }; value = Some (Int (pos n)) }

abbrev pub holding : List Version → Content
holding vs = record no_content { versions = vs }

-- a range of a node that has the lease, and of node 3
abbrev pub info : ℕ → ℕ → List ℕ → List ℕ → Info
info id node s e = record {
  desc = record { id = id; span = record { start = s; end = e }; nodes = node ∷ 3 ∷ []; generation = 1 };
  lease = record { node = node; number = 1 };
}

-- two ranges with the border g: at a stands a 7, and at m a 9, both of stamp 4
abbrev pub low : Range
low = record { info = info 1 1 [] key_g; cells = (key_a, holding (version 4 7 ∷ [])) ∷ [] }

abbrev pub high : Range
high = record { info = info 2 2 key_g bound; cells = (key_m, holding (version 4 9 ∷ [])) ∷ [] }

abbrev pub world : World
world = record { ranges = low ∷ high ∷ []; descs = low.info.desc ∷ high.info.desc ∷ []; armed = []; records = []; copies = []; count = 0 }

abbrev pub txn_record : ℕ → RecordStatus → TxnRecord
txn_record n s = record { txn = record { 0 = n }; stamp = record { 0 = 10 }; epoch = 0; status = s }

abbrev pub get : List ℕ → Request
get k = Get (record { key = k })

abbrev pub put : List ℕ → ℕ → Request
put k n = Put (record { key = k; value = Int (pos n) })

abbrev pub scan : List ℕ → List ℕ → Request
scan s e = Scan (record { start = s; end = e })

abbrev pub scan_back : List ℕ → List ℕ → Request
scan_back s e = ReverseScan (record { start = s; end = e })

-- asked at a stamp without a transaction, and by a transaction at stamp 10
abbrev pub alone_at : ℕ → Head
alone_at s = record { at = record { 0 = s }; txn = None; left = None; epoch = 0 }

abbrev pub by_txn : ℕ → Head
by_txn n = record { at = record { 0 = 10 }; txn = Some (record { 0 = n }); left = None; epoch = 0 }

-- all these requests in one piece for a range
abbrev pub piece : Head → ℕ → List Request → Piece
piece h id rs = record { head = h; range = id; items = items_from 0 rs (numbers_from 0 rs); dir = Forward }

-- a batch at a stamp, and as it is asked
abbrev pub batch_at : ℕ → List Request → Batch
batch_at s rs = record { at = Some (record { 0 = s }); consistent = true; limit = None; requests = rs }

abbrev pub asked_by : Head → List Request → Asking
asked_by h rs = numbered h 0 (batch_at h.at.0 rs)

abbrev pub asked_at : ℕ → List Request → Asking
asked_at s rs = asked_by (alone_at s) rs

abbrev pub saying : Body → Reply
saying b = record { body = b; resume = None }

abbrev pub got : ℕ → Reply
got n = saying (Body.Got (Some (Int (pos n))))

abbrev pub row : List ℕ → ℕ → Row
row k n = record { key = k; value = Int (pos n) }

-- the number that a first get was answered, 0 without one
abbrev pub number_got : Body → ℕ
number_got (Body.Got (Some (Int (pos n)))) = n
number_got b = 0

abbrev pub is_refused : Answer → Bool
is_refused (Refused r) = true
is_refused a = false

-- how many keys the first range holds
abbrev pub held_first : List Range → ℕ
held_first [] = 0
held_first (r ∷ rs) = length r.cells

abbrev pub number_in : Answer → ℕ
number_in (Done (r ∷ rs)) = number_got r.body
number_in a = 0

-- a foreign write
abbrev pub wrote : List ℕ → ℕ → ℕ → Event
wrote k s n = Event.Write k (record { 0 = s }) (Some (Int (pos n)))

pub never : false ≡ true → ⊥
never h = cc

-- ---- lookups

a_lookup_begins_at_the_range_of_its_key : look_rows world key_a Forward ≡ low.info ∷ high.info ∷ []
a_lookup_begins_at_the_range_of_its_key = refl

a_border_lies_in_the_range_above : look_rows world key_g Forward ≡ high.info ∷ []
a_border_lies_in_the_range_above = refl

it_doesnt_lie_in_the_range_below : look_rows world key_g Forward ≡ low.info ∷ high.info ∷ [] → ⊥
it_doesnt_lie_in_the_range_below h = differs h (λ rows. length rows == 1) refl refl

in_reverse_a_border_lies_in_the_range_below : look_rows world key_g Reverse ≡ low.info ∷ []
in_reverse_a_border_lies_in_the_range_below = refl

in_reverse_the_range_below_comes_second : look_rows world key_m Reverse ≡ high.info ∷ low.info ∷ []
in_reverse_the_range_below_comes_second = refl

the_bound_lies_in_the_last_range_in_reverse : look_rows world bound Reverse ≡ high.info ∷ low.info ∷ []
the_bound_lies_in_the_last_range_in_reverse = refl

no_range_lies_below_the_least_key : look_rows world [] Reverse ≡ []
no_range_lies_below_the_least_key = refl

-- ten ranges of one node, each of one byte's keys from a on
narrow : ℕ → Range
narrow n = record { info = info n 1 ((96 + n) ∷ []) ((97 + n) ∷ []); cells = [] }

many : World
many = record world { ranges = narrow 1 ∷ narrow 2 ∷ narrow 3 ∷ narrow 4 ∷ narrow 5 ∷ narrow 6 ∷ narrow 7 ∷ narrow 8 ∷ narrow 9 ∷ narrow 10 ∷ [] }

a_lookup_gives_nine_rows_at_most : length (look_rows many key_a Forward) ≡ 9
unfolding many narrow
a_lookup_gives_nine_rows_at_most = refl

-- an old descriptor over both ranges, which the next lookup there is answered with
old : RangeDesc
old = record { id = 1; span = record { start = []; end = bound }; nodes = 2 ∷ 3 ∷ []; generation = 0 }

armed : World
armed = record world { armed = old ∷ [] }

an_armed_descriptor_is_answered_alone : look_rows armed key_a Forward ≡ record { desc = old; lease = record { node = 2; number = 0 } } ∷ []
unfolding armed old
an_armed_descriptor_is_answered_alone = refl

it_is_used_up : look_world armed key_a Forward ≡ world
unfolding armed old
it_is_used_up = refl

it_stays_for_a_key_that_it_doesnt_contain : look_world armed bound Forward ≡ armed
unfolding armed old
it_stays_for_a_key_that_it_doesnt_contain = refl

-- ---- what the ranges hold

pub two_ranges_tile : Tiles [] (low ∷ high ∷ [])
two_ranges_tile = (
  record { begins = refl; some = refl; rising = (tt, tt); inside = (refl, tt) },
  (record { begins = refl; some = refl; rising = (tt, tt); inside = (refl, tt) }, refl),
)

-- from g on nothing is left of the keys up to m
a_gap_doesnt_tile : Tiles [] (low ∷ record high { info = info 2 2 key_m bound } ∷ []) → ⊥
a_gap_doesnt_tile h = differs h.1.0.begins (λ k. key_eq k key_m) refl refl

ranges_that_end_early_dont_tile : Tiles [] (low ∷ []) → ⊥
ranges_that_end_early_dont_tile h = differs h.1 (λ k. key_eq k key_g) refl refl

a_range_holds_no_key_of_another : Tiles [] (record low { cells = high.cells } ∷ high ∷ []) → ⊥
a_range_holds_no_key_of_another h = never h.0.inside.0

what_stands_at_a_key_in_any_range : cell_of world key_m ≡ holding (version 4 9 ∷ [])
what_stands_at_a_key_in_any_range = refl

nothing_stands_beside_it : cell_of world key_z ≡ no_content
nothing_stands_beside_it = refl

what_stands_is_not_nothing : cell_of world key_a ≡ no_content → ⊥
what_stands_is_not_nothing h = differs h (λ c. length c.versions == 1) refl refl

-- ---- why a piece is turned away

a_get_is_served : deliver_answer world 1 (piece (alone_at 10) 1 (get key_a ∷ [])) ≡ Done (got 7 ∷ [])
a_get_is_served = refl

no_other_value_is_served : deliver_answer world 1 (piece (alone_at 10) 1 (get key_a ∷ [])) ≡ Done (got 9 ∷ []) → ⊥
no_other_value_is_served h = differs h (λ a. number_in a == 7) refl refl

a_range_that_isnt_there_is_not_found : deliver_answer world 1 (piece (alone_at 10) 9 (get key_a ∷ [])) ≡ Refused NotFound
a_range_that_isnt_there_is_not_found = refl

a_node_that_is_no_replica_doesnt_find_the_range : deliver_answer world 2 (piece (alone_at 10) 1 (get key_a ∷ [])) ≡ Refused NotFound
a_node_that_is_no_replica_doesnt_find_the_range = refl

a_replica_without_the_lease_tells_where_it_is : deliver_answer world 3 (piece (alone_at 10) 1 (get key_a ∷ [])) ≡ Refused (NotLease low.info.lease)
a_replica_without_the_lease_tells_where_it_is = refl

a_scan_over_the_border_is_answered_with_both_ranges : deliver_answer world 1 (piece (alone_at 10) 1 (scan key_a key_z ∷ [])) ≡ Refused (Mismatch (low.info ∷ high.info ∷ []))
a_scan_over_the_border_is_answered_with_both_ranges = refl

a_key_of_another_range_is_answered_with_that_range : deliver_answer world 1 (piece (alone_at 10) 1 (get key_m ∷ [])) ≡ Refused (Mismatch (high.info ∷ []))
a_key_of_another_range_is_answered_with_that_range = refl

in_reverse_the_range_above_comes_first : deliver_answer world 1 (record (piece (alone_at 10) 1 (scan_back key_a key_z ∷ [])) { dir = Reverse }) ≡ Refused (Mismatch (high.info ∷ low.info ∷ []))
in_reverse_the_range_above_comes_first = refl

-- the least span over both gets goes on from the first range of the ten to the last, and eight of them are named
a_mismatch_names_eight_ranges_at_most : deliver_answer many 1 (piece (alone_at 10) 1 (get key_a ∷ get (106 ∷ []) ∷ []))
    ≡ Refused (Mismatch ((narrow 1).info ∷ (narrow 2).info ∷ (narrow 3).info ∷ (narrow 4).info ∷ (narrow 5).info ∷ (narrow 6).info ∷ (narrow 7).info ∷ (narrow 8).info ∷ []))
unfolding many narrow
a_mismatch_names_eight_ranges_at_most = refl

a_range_between_two_gets_is_named_too : deliver_answer many 1 (piece (alone_at 10) 1 (get key_a ∷ get (99 ∷ []) ∷ [])) ≡ Refused (Mismatch ((narrow 1).info ∷ (narrow 2).info ∷ (narrow 3).info ∷ []))
unfolding many narrow
a_range_between_two_gets_is_named_too = refl

a_scan_up_to_the_border_is_served : deliver_answer world 1 (piece (alone_at 10) 1 (scan key_a key_g ∷ [])) ≡ Done (saying (Body.Rows (row key_a 7 ∷ [])) ∷ [])
a_scan_up_to_the_border_is_served = refl

-- ---- transactions that take no more pieces

abbrev pub with_record : RecordStatus → World
with_record s = record world { records = txn_record 1 s ∷ [] }

a_pending_transaction_is_served : deliver_answer (with_record Status.Pending) 1 (piece (by_txn 1) 1 (get key_a ∷ [])) ≡ Done (got 7 ∷ [])
a_pending_transaction_is_served = refl

an_aborted_transaction_fails : deliver_answer (with_record Status.Aborted) 1 (piece (by_txn 1) 1 (get key_a ∷ [])) ≡ Failed Failure.Aborted
an_aborted_transaction_fails = refl

a_committed_transaction_fails : deliver_answer (with_record Status.Committed) 1 (piece (by_txn 1) 1 (get key_a ∷ [])) ≡ Failed Failure.Committed
a_committed_transaction_fails = refl

who_has_no_transaction_doesnt_fail_with_one : deliver_answer (with_record Status.Aborted) 1 (piece (alone_at 10) 1 (get key_a ∷ [])) ≡ Done (got 7 ∷ [])
who_has_no_transaction_doesnt_fail_with_one = refl

-- the first reason counts: before its transaction's end comes the wrong node
a_wrong_node_doesnt_tell_of_an_abort : deliver_answer (with_record Status.Aborted) 2 (piece (by_txn 1) 1 (get key_a ∷ [])) ≡ Failed Failure.Aborted → ⊥
a_wrong_node_doesnt_tell_of_an_abort h = differs h is_refused refl refl

-- ---- what a piece does

a_read_changes_nothing : deliver_world world 1 (piece (alone_at 10) 1 (get key_a ∷ [])) ≡ world
a_read_changes_nothing = refl

a_stamped_write_is_committed_by_its_piece : cell_of (deliver_world world 1 (piece (alone_at 10) 1 (put key_a 5 ∷ []))) key_a ≡ holding (version 4 7 ∷ version 10 5 ∷ [])
a_stamped_write_is_committed_by_its_piece = refl

a_transactions_write_stays_an_intent : cell_of (deliver_world (with_record Status.Pending) 1 (piece (by_txn 1) 1 (put key_a 5 ∷ []))) key_a
    ≡ record { versions = version 4 7 ∷ []; owner = 1; epoch = 0; history = write 1 5 ∷ []; waiting = [] }
a_transactions_write_stays_an_intent = refl

it_isnt_committed_by_its_piece : cell_of (deliver_world (with_record Status.Pending) 1 (piece (by_txn 1) 1 (put key_a 5 ∷ []))) key_a ≡ holding (version 4 7 ∷ version 10 5 ∷ []) → ⊥
it_isnt_committed_by_its_piece h = differs h (λ c. length c.versions == 1) refl refl

-- the rules of scripts let no such write come beside a transaction
a_stamped_write_takes_the_place_of_an_intent : cell_of (deliver_world (deliver_world world 1 (piece (by_txn 1) 1 (put key_a 5 ∷ []))) 1 (piece (alone_at 12) 1 (put key_a 6 ∷ []))) key_a ≡ holding (version 4 7 ∷ version 12 6 ∷ [])
a_stamped_write_takes_the_place_of_an_intent = refl

-- at stamp 3 the second put is too old
a_piece_tells_what_failed : deliver_answer world 1 (piece (alone_at 3) 1 (put key_b 1 ∷ put key_a 2 ∷ [])) ≡ Failed (Failure.TooOld 1 key_a (record { 0 = 4 }))
a_piece_tells_what_failed = refl

a_piece_that_fails_changes_nothing : deliver_world world 1 (piece (alone_at 3) 1 (put key_b 1 ∷ put key_a 2 ∷ [])) ≡ world
a_piece_that_fails_changes_nothing = refl

a_piece_that_is_turned_away_changes_nothing : deliver_world world 3 (piece (alone_at 10) 1 (put key_a 5 ∷ [])) ≡ world
a_piece_that_is_turned_away_changes_nothing = refl

-- ---- events

a_foreign_write_goes_to_the_range_of_its_key : moved world (wrote key_m 12 5) ≡ record world { ranges = low ∷ record high { cells = (key_m, holding (version 4 9 ∷ version 12 5 ∷ [])) ∷ [] } ∷ []; count = 1 }
a_foreign_write_goes_to_the_range_of_its_key = refl

a_foreign_write_at_the_border_isnt_of_the_range_below : moved world (wrote key_g 12 5) ≡ record world { ranges = record low { cells = (key_a, holding (version 4 7 ∷ [])) ∷ (key_g, holding (version 12 5 ∷ [])) ∷ [] } ∷ high ∷ []; count = 1 } → ⊥
a_foreign_write_at_the_border_isnt_of_the_range_below h = differs h (λ w. held_first w.ranges == 1) refl refl

a_foreign_write_waits_beside_an_intent : cell_of (moved (deliver_world world 1 (piece (by_txn 1) 1 (put key_a 5 ∷ []))) (wrote key_a 12 6)) key_a
    ≡ record { versions = version 4 7 ∷ []; owner = 1; epoch = 0; history = write 1 5 ∷ []; waiting = version 12 6 ∷ [] }
a_foreign_write_waits_beside_an_intent = refl

each_event_counts : moved world Event.Abort ≡ world → ⊥
each_event_counts h = differs h (λ w. w.count == 1) refl refl

an_abort_ends_the_last_transaction_alone : (moved (record world { records = txn_record 1 Status.Pending ∷ txn_record 2 Status.Pending ∷ [] }) Event.Abort).records ≡ txn_record 1 Status.Pending ∷ txn_record 2 Status.Aborted ∷ []
an_abort_ends_the_last_transaction_alone = refl

an_abort_doesnt_end_a_committed_transaction : moved (with_record Status.Committed) Event.Abort ≡ record (with_record Status.Committed) { count = 1 }
an_abort_doesnt_end_a_committed_transaction = refl
