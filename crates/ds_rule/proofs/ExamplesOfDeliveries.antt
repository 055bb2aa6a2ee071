-- Worked examples of what a piece does beside what its range holds, by the records and with what is left of a limit, some that
-- hold and some that must not.
use Rattle.std.proofs.Common.{◌≡◌, ℕ, ◌==◌, Bool, true, false, List, [], ◌∷◌, length, Some, None, refl}
use Rattle.ds_base.specs.Order.{after}
use Rattle.ds_kind.specs.declared.batch.Piece.{Piece}
use Rattle.ds_kind.specs.declared.reply.Body.TheVariants as Body
use Rattle.ds_kind.specs.declared.reply.Failure.TheVariants as Failure
use Rattle.ds_kind.specs.declared.reply.TxnStatus.TheVariants as Says
use Rattle.ds_kind.specs.declared.request.Request.{Request}
use Rattle.ds_kind.specs.declared.request.Request.TheVariants.{EndTxn, AdminSplit, AdminTransferLease, ResolveIntent}
use Rattle.ds_cell.specs.Content.{Content}
use Rattle.ds_rule.specs.declared.answer.Answer.TheVariants.{Done, Failed}
use Rattle.ds_rule.specs.declared.record.RecordStatus.{RecordStatus}
use Rattle.ds_rule.specs.declared.record.RecordStatus.TheVariants as Status
use Rattle.ds_rule.specs.Deliver.{deliver_answer, deliver_world}
use Rattle.ds_rule.specs.Shifts.{lease_to, split_at}
use Rattle.ds_rule.specs.World.{World, cell_of}
use Rattle.ds_rule.proofs.Examples.{key_a, key_b, key_g, world, version, write, holding, txn_record, with_record, get, put, scan, alone_at, by_txn, piece, saying, row, differs}

abbrev end : Bool → Request
end commit = EndTxn (record { key = key_a; commit = commit; one_phase = false; parallel = false; in_flight = [] })

abbrev of_txn : List Request → Piece
of_txn rs = piece (by_txn 1) 1 rs

abbrev alone : List Request → Piece
alone rs = piece (alone_at 10) 1 rs

-- ---- ends

a_commit_ends_its_record : deliver_world (with_record Status.Pending) 1 (of_txn (end true ∷ [])) ≡ with_record Status.Committed
a_commit_ends_its_record = refl

a_rollback_aborts_it : deliver_world (with_record Status.Pending) 1 (of_txn (end false ∷ [])) ≡ with_record Status.Aborted
a_rollback_aborts_it = refl

a_lone_rollback_is_answered_where_its_transaction_is_aborted : deliver_answer (with_record Status.Aborted) 1 (of_txn (end false ∷ [])) ≡ Done (saying (Body.Ended Says.Aborted) ∷ [])
a_lone_rollback_is_answered_where_its_transaction_is_aborted = refl

not_beside_another_request : deliver_answer (with_record Status.Aborted) 1 (of_txn (get key_a ∷ end false ∷ [])) ≡ Failed Failure.Aborted
not_beside_another_request = refl

a_commit_is_not : deliver_answer (with_record Status.Aborted) 1 (of_txn (end true ∷ [])) ≡ Failed Failure.Aborted
a_commit_is_not = refl

nor_is_a_rollback_of_what_is_committed : deliver_answer (with_record Status.Committed) 1 (of_txn (end false ∷ [])) ≡ Failed Failure.Committed
nor_is_a_rollback_of_what_is_committed = refl

an_end_is_no_event : deliver_world (with_record Status.Pending) 1 (of_txn (end true ∷ [])) ≡ record (with_record Status.Committed) { count = 1 } → ⊥
an_end_is_no_event h = differs h (λ w. w.count == 0) refl refl

who_has_no_transaction_ends_none : deliver_world (with_record Status.Pending) 1 (alone (end true ∷ [])) ≡ with_record Status.Pending
who_has_no_transaction_ends_none = refl

-- ---- splits and leases

a_piece_splits_its_range : deliver_world world 1 (alone (AdminSplit (record { key = key_b }) ∷ [])) ≡ split_at key_b world
a_piece_splits_its_range = refl

a_piece_moves_a_lease : deliver_world world 1 (alone (AdminTransferLease (record { key = key_a; node = 3 }) ∷ [])) ≡ lease_to key_a 3 world
a_piece_moves_a_lease = refl

-- ---- what is resolved by the records

intent : Content
intent = record { versions = version 4 7 ∷ []; owner = 1; epoch = 0; history = write 1 5 ∷ []; waiting = [] }

-- a put of transaction 1 at a, with its record
abbrev written : RecordStatus → World
written s = record (deliver_world (with_record Status.Pending) 1 (of_txn (put key_a 5 ∷ []))) { records = txn_record 1 s ∷ [] }

abbrev resolve : Piece
resolve = alone (ResolveIntent (record { key = key_a; txn = record { 0 = 1 } }) ∷ [])

what_is_committed_becomes_a_version : cell_of (deliver_world (written Status.Committed) 1 resolve) key_a ≡ record (holding (version 4 7 ∷ version 10 5 ∷ [])) { owner = 1 }
what_is_committed_becomes_a_version = refl

what_is_aborted_is_dropped : cell_of (deliver_world (written Status.Aborted) 1 resolve) key_a ≡ record (holding (version 4 7 ∷ [])) { owner = 1 }
what_is_aborted_is_dropped = refl

what_is_pending_stays : cell_of (deliver_world (written Status.Pending) 1 resolve) key_a ≡ intent
unfolding intent
what_is_pending_stays = refl

it_is_no_version_yet : cell_of (deliver_world (written Status.Pending) 1 resolve) key_a ≡ record (holding (version 4 7 ∷ version 10 5 ∷ [])) { owner = 1 } → ⊥
it_is_no_version_yet h = differs h (λ c. length c.history == 1) refl refl

-- ---- what is left of a limit

abbrev limited : ℕ → List Request → Piece
limited n rs = piece (record (alone_at 10) { left = Some n }) 1 rs

a_limit_of_one_ends_after_its_row : deliver_answer world 1 (limited 1 (scan [] key_g ∷ [])) ≡ Done (record { body = Body.Rows (row key_a 7 ∷ []); resume = Some (record { start = after key_a; end = key_g }) } ∷ [])
a_limit_of_one_ends_after_its_row = refl

what_comes_after_it_is_held_off : deliver_answer world 1 (limited 1 (scan [] key_b ∷ get key_a ∷ [])) ≡ Done (record { body = Body.Rows (row key_a 7 ∷ []); resume = Some (record { start = after key_a; end = key_b }) } ∷ record { body = Body.Got None; resume = Some (record { start = key_a; end = after key_a }) } ∷ [])
what_comes_after_it_is_held_off = refl

a_limit_of_two_isnt_used_up : deliver_answer world 1 (limited 2 (scan [] key_g ∷ [])) ≡ Done (saying (Body.Rows (row key_a 7 ∷ [])) ∷ [])
a_limit_of_two_isnt_used_up = refl
