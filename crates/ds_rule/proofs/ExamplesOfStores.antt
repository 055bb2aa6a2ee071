-- Worked examples of the definitions, some that hold and some that must not: replies gathered, the plain store, the world that
-- stands for it, and the laws.
use Rattle.std.proofs.Common.{◌≡◌, ℕ, ◌<◌, ◌≤◌, ◌==◌, not, Bool, true, false, cond, List, [], ◌∷◌, length, Option, Some, None, is_some, inl, inr, refl, sym, ap, ◌∙◌, lit<, arith}
use Rattle.ds_base.specs.Ordered.{key_eq}
use Rattle.ds_base.specs.declared.value.Dir.TheVariants.{Forward}
use Rattle.ds_kind.specs.Request.{span_of}
use Rattle.ds_kind.specs.declared.batch.Batch.{Batch}
use Rattle.ds_kind.specs.declared.batch.Item.{Item}
use Rattle.ds_kind.specs.declared.reply.Body.{Body}
use Rattle.ds_kind.specs.declared.reply.Reply.{Reply}
use Rattle.ds_kind.specs.declared.reply.Row.{Row}
use Rattle.ds_kind.specs.declared.request.Request.{Request}
use Rattle.ds_cell.specs.declared.entry.Version.{Version}
use Rattle.ds_cell.specs.Ask.{content_of, content_at}
use Rattle.ds_cell.specs.Content.{Content, no_content}
use Rattle.ds_kind.specs.Bodies.{join_bodies}
use Rattle.ds_cell.specs.Store.{Store, StoreTxn, Live, FailedSince, Unknown, Fate, Pending, Committed, Aborted, empty_store}
use Rattle.ds_rule.specs.declared.answer.Answer.TheVariants.{Done}
use Rattle.ds_rule.specs.declared.answer.Outcome.{Outcome}
use Rattle.ds_rule.specs.declared.event.Event.TheVariants as Event
use Rattle.ds_rule.specs.declared.journal.JournalStep.TheVariants.{Look}
use Rattle.ds_rule.specs.declared.record.RecordStatus.{RecordStatus}
use Rattle.ds_rule.specs.declared.record.RecordStatus.TheVariants as Status
use Rattle.ds_rule.specs.declared.record.TxnRecord.{TxnRecord}
use Rattle.ds_desc.specs.declared.meta.Looked.TheVariants as Looked
use Rattle.ds_rule.specs.Asking.{Asking, Made, Gives, Fails, ask_all, asking}
use Rattle.ds_rule.specs.Gathered.{Gathered, IsGathered}
use Rattle.ds_rule.specs.Journal.{Accepted, Moved, Did}
use Rattle.ds_rule.specs.Clauses.{Stands}
use Rattle.ds_rule.specs.Law.{LeadsTo, IsGiven, IsProperRead, IsQuiet, MayAct, PlainCause}
use Rattle.ds_rule.specs.Plain.{Answered, IsPlainOk, after_event, asker_in}
use Rattle.ds_rule.specs.StandsFor.{Ready, IsAt, HasRecordOf, IsIntentOf, StandsFor}
use Rattle.ds_rule.proofs.Examples.{number_in, key_a, key_b, key_g, key_m, key_z, version, write, holding, world, txn_record, get, put, scan, scan_back, alone_at, batch_at, asked_at, saying, got, row, wrote, differs, never}
use Rattle.ds_rule.proofs.ExamplesOfJournals.{look, get_gave, wire}
use Rattle.ds_rule.proofs.ExamplesOfMoves.{late, two_ranges_are_kept, with_late}

-- ---- replies gathered

item : Request → Item
item r = record { pos = 0; seq = record { 0 = 0 }; request = r }

-- the rows that were answered to a request
answered : Request → List Row → Accepted
answered r rows = record { head = alone_at 20; item = item r; reply = saying (Body.Rows rows) }

lower : Accepted
lower = answered (scan key_a key_g) (row key_a 7 ∷ [])

upper : Accepted
upper = answered (scan key_g key_z) (row key_m 9 ∷ [])

both_rows : List Row
both_rows = row key_a 7 ∷ row key_m 9 ∷ []

whole_scan : Item
whole_scan = item (scan key_a key_z)

-- the upper piece was answered first
pieces_join_in_key_order : IsGathered (upper ∷ lower ∷ []) whole_scan (saying (Body.Rows both_rows))
unfolding upper lower answered item both_rows whole_scan
pieces_join_in_key_order = record {
  whole = refl;
  joins = (key_g, Body.Rows (row key_m 9 ∷ []), refl, refl, (key_z, Body.Rows [], refl, refl, (refl, refl), refl), refl);
}

they_join_whatever_the_order_of_arrival : IsGathered (lower ∷ upper ∷ []) whole_scan (saying (Body.Rows both_rows))
unfolding upper lower answered item both_rows whole_scan
they_join_whatever_the_order_of_arrival = record {
  whole = refl;
  joins = (key_g, Body.Rows (row key_m 9 ∷ []), refl, refl, (key_z, Body.Rows [], refl, refl, (refl, refl), refl), refl);
}

-- a scan in reverse has the rows of the upper piece first
in_reverse_the_upper_rows_come_first : IsGathered (answered (scan_back key_a key_g) (row key_a 7 ∷ []) ∷ answered (scan_back key_g key_z) (row key_m 9 ∷ []) ∷ []) (item (scan_back key_a key_z)) (saying (Body.Rows (row key_m 9 ∷ row key_a 7 ∷ [])))
unfolding answered item
in_reverse_the_upper_rows_come_first = record {
  whole = refl;
  joins = (key_g, Body.Rows (row key_m 9 ∷ []), refl, refl, (key_z, Body.Rows [], refl, refl, (refl, refl), refl), refl);
}

-- where the keys from g on are missing
a_scan_with_a_gap_isnt_gathered : IsGathered (lower ∷ []) whole_scan (saying (Body.Rows (row key_a 7 ∷ []))) → ⊥
unfolding lower answered item whole_scan
a_scan_with_a_gap_isnt_gathered h = differs (ap (λ i. (span_of i.request).end) h.joins.3 ∙ h.joins.4.0) (λ k. key_eq k key_g) refl refl

-- where the keys up to g were answered twice
a_scan_answered_twice_isnt_gathered : IsGathered (lower ∷ lower ∷ upper ∷ []) whole_scan (saying (Body.Rows both_rows)) → ⊥
unfolding upper lower answered item both_rows whole_scan
a_scan_answered_twice_isnt_gathered h = differs (ap (λ i. (span_of i.request).start) h.joins.4.3 ∙ sym (ap (λ i. (span_of i.request).end) h.joins.3)) (λ k. key_eq k key_a) refl refl

rows_in_another_order_arent_gathered : IsGathered (upper ∷ lower ∷ []) whole_scan (saying (Body.Rows (row key_m 9 ∷ row key_a 7 ∷ []))) → ⊥
unfolding upper lower answered item whole_scan
rows_in_another_order_arent_gathered h =
    let last : h.joins.4.1 ≡ Body.Rows [] = h.joins.4.4.1 in
    let second : h.joins.1 ≡ Body.Rows (row key_m 9 ∷ []) = h.joins.4.5 ∙ ap (λ b. join_bodies false (Body.Rows (row key_m 9 ∷ [])) b) last in
    let both : Body.Rows (row key_m 9 ∷ row key_a 7 ∷ []) ≡ Body.Rows (row key_a 7 ∷ row key_m 9 ∷ []) = h.joins.5 ∙ ap (λ b. join_bodies false (Body.Rows (row key_a 7 ∷ [])) b) second in
    differs both (begins_with key_m) refl refl
  where
    first_key : List Row → List ℕ
    first_key [] = []
    first_key (r ∷ rs) = r.key

    begins_with : List ℕ → Body → Bool
    begins_with k (Body.Rows rs) = key_eq (first_key rs) k
    begins_with k b = false

a_scan_cut_short_isnt_gathered : IsGathered (lower ∷ []) (item (scan key_a key_g)) (record { body = Body.Rows (row key_a 7 ∷ []); resume = Some (record { start = key_b; end = key_g }) }) → ⊥
unfolding lower answered item
a_scan_cut_short_isnt_gathered h = differs h.whole is_some refl refl

each_request_has_its_reply : Gathered (lower ∷ []) (item (scan key_a key_g) ∷ []) [] → ⊥
each_request_has_its_reply h = h

-- ---- the plain store

-- what the two ranges hold, in one store
abbrev pub store : Store
store = record { cells = (key_a, holding (version 4 7 ∷ [])) ∷ (key_m, holding (version 4 9 ∷ [])) ∷ []; txn = None; begun = 0 }

-- transaction 1 at stamp 10, which has asked nothing yet
abbrev pub open_txn : StoreTxn
open_txn = record { asker = record { number = 1; stamp = 10; epoch = 0; last = 0 }; fate = Pending; mode = Live; batches = 0 }

abbrev pub store_in : StoreTxn → Store
store_in t = record store { txn = Some t; begun = 1 }

-- a batch of the transaction
abbrev pub batch_of_txn : List Request → Batch
batch_of_txn rs = record (batch_at 10 rs) { at = None }

abbrev rows_shown : List Row → Outcome
rows_shown rows = Outcome.Ok (saying (Body.Rows rows) ∷ [])

a_scan_shows_all_rows : Answered store (batch_at 20 (scan key_a key_z ∷ [])) (rows_shown (row key_a 7 ∷ row key_m 9 ∷ [])) store
a_scan_shows_all_rows = record {
  unlimited = refl;
  pending = refl;
  asked = asked_at 20 (scan key_a key_z ∷ []);
  asks = refl;
  cells = store.cells;
  writes = [];
  gives = refl;
  next = refl;
}

a_put_at_a_stamp_is_a_version : Answered store (batch_at 20 (put key_a 5 ∷ [])) (Outcome.Ok (saying Body.Unit ∷ [])) (record store { cells = (key_a, holding (version 4 7 ∷ version 20 5 ∷ [])) ∷ (key_m, holding (version 4 9 ∷ [])) ∷ [] })
a_put_at_a_stamp_is_a_version = record {
  unlimited = refl;
  pending = refl;
  asked = asked_at 20 (put key_a 5 ∷ []);
  asks = refl;
  cells = (key_a, record (holding (version 4 7 ∷ [])) { history = write 1 5 ∷ [] }) ∷ (key_m, holding (version 4 9 ∷ [])) ∷ [];
  writes = record { key = key_a; write = write 1 5 } ∷ [];
  gives = refl;
  next = refl;
}

-- how many rows a first reply has
abbrev rows_of : Body → ℕ
rows_of (Body.Rows rows) = length rows
rows_of b = 0

abbrev rows_in : List Reply → ℕ
rows_in [] = 0
rows_in (r ∷ rs) = rows_of r.body

abbrev pub replies_in : Made → List Reply
replies_in (Gives cells ws rs) = rs
replies_in (Fails f) = []

-- an Ok answer shows what the batch gives that was asked
pub shows : (p : Store) (b : Batch) (q : Asking) (rs : List Reply) (after : Store) → asking (asker_in p) b ≡ Some q → IsPlainOk p b (Outcome.Ok rs) rs after → replies_in (ask_all q.head q.items p.cells) ≡ rs
shows p b q rs after asks h = ap (λ o. replies_in (asked_of o)) (sym asks ∙ h.asks) ∙ ap replies_in h.gives
  where
    asked_of : Option Asking → Made
    asked_of None = Gives [] [] []
    asked_of (Some q) = ask_all q.head q.items p.cells

an_invented_row_isnt_plain : (after : Store) → Answered store (batch_at 20 (scan key_a key_g ∷ [])) (rows_shown (row key_a 7 ∷ row key_b 8 ∷ [])) after → ⊥
an_invented_row_isnt_plain after h = differs (shows store (batch_at 20 (scan key_a key_g ∷ [])) (asked_at 20 (scan key_a key_g ∷ [])) _ after refl h) (λ rs. rows_in rs == 1) refl refl

a_forgotten_row_isnt_plain : (after : Store) → Answered store (batch_at 20 (scan key_a key_z ∷ [])) (rows_shown (row key_a 7 ∷ [])) after → ⊥
a_forgotten_row_isnt_plain after h = differs (shows store (batch_at 20 (scan key_a key_z ∷ [])) (asked_at 20 (scan key_a key_z ∷ [])) _ after refl h) (λ rs. rows_in rs == 2) refl refl

an_aborted_transaction_sees_nothing : (rs : List Reply) (after : Store) → Answered (store_in (record open_txn { fate = Aborted })) (batch_of_txn (get key_a ∷ [])) (Outcome.Ok rs) after → ⊥
an_aborted_transaction_sees_nothing rs after h = never h.pending

-- ---- failures and events in the plain store

a_failed_batch_leaves_the_cells_and_wants_a_rollback : Answered (store_in open_txn) (batch_of_txn (put key_a 5 ∷ [])) (Outcome.NotInteger 0)
    (store_in (record open_txn { asker = record (open_txn.asker) { last = 1 }; mode = FailedSince 1; batches = 1 }))
a_failed_batch_leaves_the_cells_and_wants_a_rollback = refl

it_doesnt_stay_as_it_was : Answered (store_in open_txn) (batch_of_txn (put key_a 5 ∷ [])) (Outcome.NotInteger 0) (store_in open_txn) → ⊥
it_doesnt_stay_as_it_was h = differs h (λ p. batches_in p.txn == 0) refl refl
  where
    batches_in : Option StoreTxn → ℕ
    batches_in None = 0
    batches_in (Some t) = t.batches

a_batch_at_a_stamp_fails_without_a_trace : Answered (store_in open_txn) (batch_at 9 (put key_a 5 ∷ [])) (Outcome.NotInteger 0) (store_in open_txn)
a_batch_at_a_stamp_fails_without_a_trace = refl

a_batch_that_is_too_late_uses_no_number : Answered (store_in open_txn) (batch_of_txn (put key_a 5 ∷ [])) (Outcome.MustRollBack 1) (store_in (record open_txn { batches = 1 }))
a_batch_that_is_too_late_uses_no_number = refl

want_of_memory_is_no_answer : (after : Store) → Answered store (batch_at 20 []) Outcome.OutOfMemory after → ⊥
want_of_memory_is_no_answer after h = h

a_foreign_write_is_a_version_at_once : after_event (wrote key_a 12 5) store ≡ record store { cells = (key_a, holding (version 4 7 ∷ version 12 5 ∷ [])) ∷ (key_m, holding (version 4 9 ∷ [])) ∷ [] }
a_foreign_write_is_a_version_at_once = refl

an_abort_ends_the_open_transaction : after_event Event.Abort (store_in open_txn) ≡ store_in (record open_txn { fate = Aborted })
an_abort_ends_the_open_transaction = refl

an_abort_doesnt_undo_a_commit : after_event Event.Abort (store_in (record open_txn { fate = Committed })) ≡ store_in (record open_txn { fate = Committed })
an_abort_doesnt_undo_a_commit = refl

abbrev is_aborted : Fate → Bool
is_aborted Aborted = true
is_aborted f = false

abbrev is_aborted_in : Option StoreTxn → Bool
is_aborted_in None = false
is_aborted_in (Some t) = is_aborted t.fate

an_abort_is_more_than_nothing : after_event Event.Abort (store_in open_txn) ≡ store_in open_txn → ⊥
an_abort_is_more_than_nothing h = differs h (λ p. is_aborted_in p.txn) refl refl

-- ---- the world that stands for a store

-- the same versions, and no intents
nothing_waits : (vs : List Version) → IsAt 0 (holding vs) (holding vs)
nothing_waits vs = record { versions = refl; none_waits = refl; history = refl; owner = refl; epoch = refl; waits = λ none. refl; above = tt }

-- one of the two keys, or another
at_each : (P : Content → Type 0) → P (holding (version 4 7 ∷ [])) → P (holding (version 4 9 ∷ [])) → P no_content → (k : List ℕ) → P (content_at k store.cells)
at_each P here there nowhere k = go (key_eq key_a k) (key_eq key_m k)
  where
    go : (a m : Bool) → P (content_of (cond a (Some (key_a, holding (version 4 7 ∷ []))) (cond m (Some (key_m, holding (version 4 9 ∷ []))) None)))
    go true m = here
    go false true = there
    go false false = nowhere

two_ranges_stand_for_one_store : StandsFor world store
two_ranges_stand_for_one_store = record {
  keeps = two_ranges_are_kept;
  rising = ((refl, tt), (tt, tt));
  same = at_each (λ c. IsAt 0 c c) (nothing_waits (version 4 7 ∷ [])) (nothing_waits (version 4 9 ∷ [])) (nothing_waits []);
  intents = at_each (λ c. c.history ≡ []) refl refl refl;
  recorded = tt;
  numbers = tt;
  named = tt;
  begun = tt;
  copies = refl;
}

no_copy_is_under_way : StandsFor (with_late (late 3 1)) store → ⊥
no_copy_is_under_way h = differs h.copies (λ ls. length ls == 1) refl refl

a_world_doesnt_stand_for_a_store_without_its_versions : StandsFor world empty_store → ⊥
a_world_doesnt_stand_for_a_store_without_its_versions h = let same : IsAt 0 (holding (version 4 7 ∷ [])) no_content = h.same key_a in differs same.versions (λ vs. length vs == 0) refl refl

-- what an intent of transaction 1 and a foreign write of stamp 12 leave at a key
intent : Content
intent = record { versions = version 4 7 ∷ []; owner = 1; epoch = 0; history = write 1 5 ∷ []; waiting = version 12 6 ∷ [] }

what_waits_is_a_version_of_the_store : IsAt 10 intent (record intent { versions = version 4 7 ∷ version 12 6 ∷ []; waiting = [] })
unfolding intent
what_waits_is_a_version_of_the_store = record { versions = refl; none_waits = refl; history = refl; owner = refl; epoch = refl; waits = λ none. absurd (differs none (λ ws. length ws == 1) refl refl); above = (lit< tt, tt) }

it_doesnt_wait_in_the_store : IsAt 10 intent intent → ⊥
unfolding intent
it_doesnt_wait_in_the_store h = differs h.none_waits (λ vs. length vs == 1) refl refl

it_doesnt_wait_below_the_stamp : (d : Content) → IsAt 15 intent d → ⊥
unfolding intent
it_doesnt_wait_below_the_stamp d h = let low : 15 < 12 = h.above.0 in omega (arith, low)

nothing_waits_without_an_intent : (d : Content) → IsAt 10 (record intent { history = [] }) d → ⊥
unfolding intent
nothing_waits_without_an_intent d h = differs (h.waits refl) (λ vs. length vs == 1) refl refl

an_intent_is_the_open_transactions : IsIntentOf (Some open_txn) intent
unfolding intent
an_intent_is_the_open_transactions = inr (refl, refl)

it_isnt_of_another : IsIntentOf (Some (record open_txn { asker = record (open_txn.asker) { number = 2 } })) intent → ⊥
unfolding intent
it_isnt_of_another (inl none) = differs none (λ ws. length ws == 1) refl refl
it_isnt_of_another (inr own) = differs own.0 (λ n. n == 1) refl refl

no_intent_stands_without_a_transaction : IsIntentOf None intent → ⊥
unfolding intent
no_intent_stands_without_a_transaction none = differs none (λ ws. length ws == 1) refl refl

the_last_record_says_what_the_store_knows : HasRecordOf (Some open_txn) (txn_record 1 Status.Pending ∷ [])
the_last_record_says_what_the_store_knows = refl

abbrev is_aborted_status : RecordStatus → Bool
is_aborted_status Status.Aborted = true
is_aborted_status s = false

abbrev is_aborted_record : Option TxnRecord → Bool
is_aborted_record None = false
is_aborted_record (Some t) = is_aborted_status t.status

an_aborted_record_isnt_pending : HasRecordOf (Some open_txn) (txn_record 1 Status.Aborted ∷ []) → ⊥
an_aborted_record_isnt_pending h = differs h is_aborted_record refl refl

what_is_in_doubt_may_have_any_record : HasRecordOf (Some (record open_txn { mode = Unknown None })) (txn_record 1 Status.Committed ∷ [])
what_is_in_doubt_may_have_any_record = tt

-- ---- the laws

a_lookup_is_quiet : IsQuiet (Did look)
a_lookup_is_quiet = λ lost. lost

a_lost_lookup_isnt_quiet : IsQuiet (Did (Look key_a Forward Looked.Lost)) → ⊥
a_lost_lookup_isnt_quiet h = h tt

a_foreign_write_isnt_quiet : IsQuiet (Moved (wrote key_a 12 5)) → ⊥
a_foreign_write_isnt_quiet h = h

a_put_may_act_where_no_transaction_is_open : MayAct store (asked_at 20 (put key_a 5 ∷ []))
a_put_may_act_where_no_transaction_is_open = inl refl

a_get_may_act_beside_a_transaction : MayAct (store_in open_txn) (asked_at 9 (get key_a ∷ []))
a_get_may_act_beside_a_transaction = inr (record { read = refl; some = refl }, tt)

a_put_may_not_act_beside_a_transaction : MayAct (store_in open_txn) (asked_at 9 (put key_a 5 ∷ [])) → ⊥
a_put_may_not_act_beside_a_transaction (inl none) = differs none is_some refl refl
a_put_may_not_act_beside_a_transaction (inr reads) = never reads.0.read

a_scan_of_no_keys_is_no_proper_read : IsProperRead (item (scan key_g key_g)) → ⊥
unfolding item
a_scan_of_no_keys_is_no_proper_read h = never h.some

a_put_below_a_version_is_too_old : PlainCause store (asked_at 3 (put key_a 5 ∷ [])) (Outcome.WriteTooOld 0 key_a (record { 0 = 4 }))
a_put_below_a_version_is_too_old = refl

a_put_above_it_is_not : PlainCause store (asked_at 20 (put key_a 5 ∷ [])) (Outcome.WriteTooOld 0 key_a (record { 0 = 4 })) → ⊥
a_put_above_it_is_not h = differs h (λ m. not (has_failed m)) refl refl
  where
    has_failed : Made → Bool
    has_failed (Gives cells ws rs) = false
    has_failed (Fails f) = true

want_of_memory_isnt_given : IsGiven Outcome.OutOfMemory → ⊥
want_of_memory_isnt_given h = h

-- ---- a wire that is ready, and what a call leads to

a_wire_is_ready_for_a_get_at_its_floor : Ready wire store (batch_at 10 (get key_a ∷ [])) (asked_at 10 (get key_a ∷ []))
a_wire_is_ready_for_a_get_at_its_floor = record {
  stands = two_ranges_stand_for_one_store;
  asks = refl;
  who = tt;
  knows = tt;
  before = tt;
  floor = omega arith;
  open_floor = omega arith;
}

it_isnt_above_its_floor : Ready wire store (batch_at 20 (get key_a ∷ [])) (asked_at 20 (get key_a ∷ [])) → ⊥
it_isnt_above_its_floor h = let low : 20 ≤ 10 = h.floor in omega (arith, low)

it_isnt_for_another_store : Ready wire empty_store (batch_at 10 (get key_a ∷ [])) (asked_at 10 (get key_a ∷ [])) → ⊥
it_isnt_for_another_store h = a_world_doesnt_stand_for_a_store_without_its_versions h.stands

abbrev after_a_get : ℕ → Stands
after_a_get n = record wire { past = Did look ∷ Did (get_gave n) ∷ [] }

a_get_leads_to_the_plain_answer : LeadsTo wire (after_a_get 7) store (batch_at 20 (get key_a ∷ [])) (Outcome.Ok (got 7 ∷ []))
a_get_leads_to_the_plain_answer = record {
  added = Did look ∷ Did (get_gave 7) ∷ [];
  grown = refl;
  next = store;
  answered = record { unlimited = refl; pending = refl; asked = asked_at 20 (get key_a ∷ []); asks = refl; cells = store.cells; writes = []; gives = refl; next = refl };
  stands = two_ranges_stand_for_one_store;
}

it_leads_to_no_other : LeadsTo wire (after_a_get 8) store (batch_at 20 (get key_a ∷ [])) (Outcome.Ok (got 8 ∷ [])) → ⊥
it_leads_to_no_other h = differs (shows store (batch_at 20 (get key_a ∷ [])) (asked_at 20 (get key_a ∷ [])) _ h.next refl h.answered) (λ rs. number_in (Done rs) == 7) refl refl
