-- Worked examples of how transactions begin and end, some that hold and some that must not.
use Rattle.std.proofs.Common.{◌≡◌, ℕ, ◌==◌, ◌<◌, Bool, true, false, List, [], ◌∷◌, length, Option, Some, None, refl, lit<, arith}
use Rattle.std.specs.Option.{is_some}
use Rattle.ds_kind.specs.declared.reply.TxnStatus.TheVariants as Says
use Rattle.ds_cell.specs.Content.{Content, no_content}
use Rattle.ds_cell.specs.Store.{Asker}
use Rattle.ds_rule.specs.declared.event.Event.TheVariants.{Abort, Restart}
use Rattle.ds_rule.specs.declared.record.RecordStatus.{RecordStatus}
use Rattle.ds_rule.specs.declared.record.RecordStatus.TheVariants as Status
use Rattle.ds_rule.specs.declared.record.TxnRecord.{TxnRecord}
use Rattle.ds_rule.specs.Close.{CanBegin, close_status, closed, new_record, with_begin}
use Rattle.ds_rule.specs.Moves.{moved}
use Rattle.ds_rule.specs.Records.{record_of}
use Rattle.ds_rule.specs.World.{World, cell_of}
use Rattle.ds_rule.proofs.Examples.{key_a, version, write, low, high, world, txn_record, differs}

abbrev asker : ℕ → Asker
asker n = record { number = n; stamp = 10; epoch = 0; last = 0 }

-- two ranges with these records, and an intent of transaction 2 at a
abbrev intent : Content
intent = record no_content { history = write 1 5 ∷ []; owner = 2 }

abbrev with_records : List TxnRecord → World
with_records ts = record world { ranges = record low { cells = (key_a, intent) ∷ [] } ∷ high ∷ []; records = ts }

abbrev first_committed : List TxnRecord
first_committed = txn_record 1 Status.Committed ∷ txn_record 2 Status.Pending ∷ []

abbrev last_committed : List TxnRecord
last_committed = txn_record 1 Status.Aborted ∷ txn_record 2 Status.Committed ∷ []

-- ---- begins

a_new_number_may_begin : CanBegin (asker 3) (with_records first_committed)
a_new_number_may_begin = record { above = lit< tt; fresh = refl }

no_number_is_given_again : CanBegin (asker 2) (with_records first_committed) → ⊥
no_number_is_given_again h = differs h.fresh is_some refl refl

nor_may_0_begin : CanBegin (asker 0) (with_records first_committed) → ⊥
nor_may_0_begin h = let low : 0 < 0 = h.above in omega (arith, low)

a_begun_transaction_has_its_record : record_of 3 (with_begin (asker 3) (with_records first_committed)).records ≡ Some (new_record (asker 3))
a_begun_transaction_has_its_record = refl

is_committed : Option TxnRecord → Bool
is_committed None = false
is_committed (Some t) = by t.status
  where
    by : RecordStatus → Bool
    by Status.Committed = true
    by s = false

not_where_its_number_was_given : record_of 1 (with_begin (asker 1) (with_records first_committed)).records ≡ Some (new_record (asker 1)) → ⊥
unfolding is_committed
not_where_its_number_was_given h = differs h is_committed refl refl

-- ---- ends

a_close_says_how_the_last_stands : close_status (with_records last_committed) ≡ Says.Committed
a_close_says_how_the_last_stands = refl

an_earlier_one_doesnt_matter : close_status (with_records first_committed) ≡ Says.Aborted
an_earlier_one_doesnt_matter = refl

what_was_committed_becomes_a_version : (cell_of (closed (with_records last_committed)) key_a).versions ≡ version 10 5 ∷ []
what_was_committed_becomes_a_version = refl

what_was_not_is_dropped : cell_of (closed (with_records first_committed)) key_a ≡ record intent { history = [] }
what_was_not_is_dropped = refl

an_abort_leaves_the_records_as_a_close : (moved (with_records first_committed) Abort).records ≡ (closed (with_records first_committed)).records
an_abort_leaves_the_records_as_a_close = refl

but_its_intents_stay : cell_of (moved (with_records first_committed) Abort) key_a ≡ no_content → ⊥
but_its_intents_stay h = differs h (λ c. length c.history == 1) refl refl

-- ---- restarts

a_restart_is_counted : (moved world (Restart (record { 0 = 1 }))).count ≡ 1
a_restart_is_counted = refl
