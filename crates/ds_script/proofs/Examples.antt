-- Worked examples of the definitions, some that hold and some that must not: scripts against logs, legal journals, gathered
-- replies, and plain runs.
use Rattle.std.proofs.Common.{◌≡◌, ℕ, ◌==◌, Bool, true, false, List, [], ◌∷◌, length, Option, Some, None, refl, sym, ap, ◌∙◌, subst}
use Rattle.ds_base.specs.Order.{after}
use Rattle.ds_base.specs.declared.value.Dir.TheVariants.{Forward}
use Rattle.ds_kind.specs.declared.batch.Batch.{Batch}
use Rattle.ds_kind.specs.declared.reply.Body.{Body}
use Rattle.ds_kind.specs.declared.reply.Reply.{Reply}
use Rattle.ds_kind.specs.declared.reply.TxnStatus.{TxnStatus}
use Rattle.ds_cell.specs.Store.{Store, StoreTxn, Committed, empty_store}
use Rattle.ds_rule.specs.declared.answer.Answer.TheVariants.{Done}
use Rattle.ds_rule.specs.declared.answer.Outcome.{Outcome}
use Rattle.ds_rule.specs.declared.event.Block.{Block}
use Rattle.ds_rule.specs.declared.journal.Entry.{Entry}
use Rattle.ds_rule.specs.declared.journal.JournalStep.{JournalStep}
use Rattle.ds_rule.specs.declared.journal.JournalStep.TheVariants.{Send}
use Rattle.ds_rule.specs.declared.record.RecordStatus.{RecordStatus}
use Rattle.ds_rule.specs.Asking.{ask_all}
use Rattle.ds_rule.specs.Begin.{first_world}
use Rattle.ds_rule.specs.Close.{closed}
use Rattle.ds_rule.specs.Deliver.{deliver_answer}
use Rattle.ds_rule.specs.Moves.{moved}
use Rattle.ds_rule.specs.Plain.{IsPlainOk, after_event}
use Rattle.ds_rule.specs.World.{World, look_world}
use Rattle.ds_rule.proofs.Examples.{key_a, key_g, key_m, key_z, version, write, holding, txn_record, with_record, get, scan, alone_at, by_txn, piece, batch_at, asked_by, asked_at, saying, got, row, number_in, wrote, differs}
use Rattle.ds_rule.proofs.ExamplesOfJournals.{look, get_piece, get_gave, a_get_is_a_piece_of_its_batch}
use Rattle.ds_rule.proofs.ExamplesOfStores.{store, open_txn, store_in, batch_of_txn, replies_in, shows}
use Rattle.ds_script.specs.declared.line.Line.{Line}
use Rattle.ds_script.specs.declared.line.Numbered.{Numbered}
use Rattle.ds_script.specs.Journals.{Asks, Played, JournalTurn, WorldAfter, BatchPlays, BatchGathers, LegalJournal, AllGathered, first_played, no_asks, asks_after}
use Rattle.ds_script.specs.PlainRuns.{BatchNext, Closes, PlainTurn, PlainRun}
use Rattle.ds_script.specs.Runs.{Plays, TakesEntry, event_of, has_entry, line_of}

-- ---- a script of three lines, and its log

abbrev on_line : ℕ → Line → Numbered
on_line n l = record { number = n; line = l }

-- two ranges with the border g, on nodes 1 and 3, and 2 and 3
abbrev cluster : Line
cluster = Line.Cluster (record { nodes = 3; ranges = record { start = []; nodes = 1 ∷ 3 ∷ []; lease = 1 } ∷ record { start = key_g; nodes = 2 ∷ 3 ∷ []; lease = 2 } ∷ [] })

abbrev begun : World
begun = first_world (record { start = []; nodes = 1 ∷ 3 ∷ []; lease = 1 } ∷ record { start = key_g; nodes = 2 ∷ 3 ∷ []; lease = 2 } ∷ [])

-- a foreign 7 at a
abbrev write_7 : Line
write_7 = Line.Write key_a (record { 0 = 4 }) (version 4 7).value

abbrev nothing_beside : Block
nothing_beside = record { events = []; picks = [] }

-- a get at a, answered so
abbrev get_line : Line
get_line = Line.Batch (batch_at 20 (get key_a ∷ [])) nothing_beside

abbrev script : List Numbered
script = on_line 1 cluster ∷ on_line 2 write_7 ∷ on_line 3 get_line ∷ []

abbrev entry : ℕ → Entry
entry n = Entry.Batch 3 (look ∷ get_gave n ∷ []) (Outcome.Ok (got n ∷ []))

abbrev closing : ℕ → Entry
closing n = Entry.Closed n TxnStatus.Aborted

-- ---- lines and entries

a_close_has_an_entry : has_entry Line.Close ≡ true
a_close_has_an_entry = refl

a_foreign_write_has_none : has_entry write_7 ≡ false
a_foreign_write_has_none = refl

a_foreign_write_is_an_event : event_of write_7 ≡ Some (wrote key_a 4 7)
a_foreign_write_is_an_event = refl

a_close_is_none : event_of Line.Close ≡ None
a_close_is_none = refl

a_close_takes_the_first_entry : TakesEntry true 2 (closing 2 ∷ closing 5 ∷ []) (Some (closing 2)) (closing 5 ∷ [])
a_close_takes_the_first_entry = (refl, refl)

-- a line without an entry leaves the log
skips : (n : ℕ) (log : List Entry) (e : Option Entry) (rest : List Entry) → TakesEntry false n log e rest → (e ≡ None) × (rest ≡ log)
skips n log None rest h = (refl, h)
skips n log (Some x) rest h = absurd h

plays_on : {S : Type 0} (T : S → Line → Option Entry → S → Type 0) (s v : S) (l : Numbered) (ls : List Numbered) (log : List Entry) → has_entry l.line ≡ false → Plays T s (l ∷ ls) log v → (m : S) × T s l.line None m × Plays T m ls log v
plays_on T s v l ls log none h =
    let left = skips l.number log h.0 h.1 (subst (λ b. TakesEntry b l.number log h.0 h.1) none h.3) in
    (h.2, subst (λ e. T s l.line e h.2) left.0 h.4, subst (λ r. Plays T h.2 ls r v) left.1 h.5)

-- a line with an entry takes the first
takes : (n : ℕ) (x : Entry) (log : List Entry) (e : Option Entry) (rest : List Entry) → TakesEntry true n (x ∷ log) e rest → (e ≡ Some x) × (rest ≡ log) × (line_of x ≡ n)
takes n x log None rest h = absurd h
takes n x log (Some y) rest h = let both : x ∷ log ≡ y ∷ rest = h.0 in let number : line_of y ≡ n = h.1 in (cc, cc, cc)

plays_entry : {S : Type 0} (T : S → Line → Option Entry → S → Type 0) (s v : S) (l : Numbered) (ls : List Numbered) (x : Entry) (log : List Entry) → has_entry l.line ≡ true → Plays T s (l ∷ ls) (x ∷ log) v → (m : S) × (line_of x ≡ l.number) × T s l.line (Some x) m × Plays T m ls log v
plays_entry T s v l ls x log has h =
    let taken = takes l.number x log h.0 h.1 (subst (λ b. TakesEntry b l.number (x ∷ log) h.0 h.1) has h.3) in
    (h.2, taken.2, subst (λ e. T s l.line e h.2) taken.0 h.4, subst (λ r. Plays T h.2 ls r v) taken.1 h.5)

-- whatever a line makes of a state

an_entry_of_another_line_doesnt_play : {S : Type 0} (T : S → Line → Option Entry → S → Type 0) (s v : S) → Plays T s (on_line 2 Line.Close ∷ []) (closing 3 ∷ []) v → ⊥
an_entry_of_another_line_doesnt_play T s v h = differs (plays_entry T s v (on_line 2 Line.Close) [] (closing 3) [] refl h).1 (λ n. n == 3) refl refl

an_entry_too_many_doesnt_play : {S : Type 0} (T : S → Line → Option Entry → S → Type 0) (s v : S) → Plays T s (on_line 2 Line.Close ∷ []) (closing 2 ∷ closing 3 ∷ []) v → ⊥
an_entry_too_many_doesnt_play T s v h = let left : closing 3 ∷ [] ≡ [] = (plays_entry T s v (on_line 2 Line.Close) [] (closing 2) (closing 3 ∷ []) refl h).3.0 in differs left (λ es. length es == 1) refl refl

an_event_takes_no_entry : {S : Type 0} (T : S → Line → Option Entry → S → Type 0) (s v : S) → Plays T s (on_line 2 Line.Abort ∷ []) (closing 2 ∷ []) v → ⊥
an_event_takes_no_entry T s v h = let left : closing 2 ∷ [] ≡ [] = (plays_on T s v (on_line 2 Line.Abort) [] (closing 2 ∷ []) refl h).2.0 in differs left (λ es. length es == 1) refl refl

-- ---- legal journals

abbrev played : World → Played
played w = record { world = w; asks = no_asks }

abbrev written : World
written = moved begun (wrote key_a 4 7)

its_steps_play : BatchPlays (played written) (batch_at 20 (get key_a ∷ [])) nothing_beside (look ∷ get_gave 7 ∷ []) written
its_steps_play = record {
  asked = asked_at 20 (get key_a ∷ []);
  asks = refl;
  plays = (refl, (refl, refl), (a_get_is_a_piece_of_its_batch (alone_at 20) None, refl, refl));
}

a_get_after_a_write_has_a_legal_journal : LegalJournal script (entry 7 ∷ [])
a_get_after_a_write_has_a_legal_journal = (
  played written,
  (None, entry 7 ∷ [], played begun, refl, (refl, refl), (None, entry 7 ∷ [], played written, refl, (refl, refl), (Some (entry 7), [], played written, (refl, refl), (its_steps_play, refl), (refl, refl)))),
)

an_answer_that_no_range_gives_is_not_legal : LegalJournal script (entry 9 ∷ []) → ⊥
an_answer_that_no_range_gives_is_not_legal h =
    let first = plays_on JournalTurn first_played h.0 (on_line 1 cluster) (on_line 2 write_7 ∷ on_line 3 get_line ∷ []) (entry 9 ∷ []) refl h.1 in
    let second = plays_on JournalTurn first.0 h.0 (on_line 2 write_7) (on_line 3 get_line ∷ []) (entry 9 ∷ []) refl first.2 in
    let third = plays_entry JournalTurn second.0 h.0 (on_line 3 get_line) [] (entry 9) [] refl second.2 in
    let world : second.0.world ≡ written = second.1.0 ∙ ap (λ w. moved w (wrote key_a 4 7)) first.1.0 in
    let steps = third.2.0.plays in
    differs (steps.2.1 ∙ ap (λ w. deliver_answer (look_world w key_a Forward) 1 get_piece) world) (λ a. number_in a == 9) refl refl

-- a transaction at stamp 10 reads and closes; nobody ends it before
abbrev txn_script : List Numbered
txn_script = on_line 1 cluster ∷ on_line 2 (Line.Begin (record { 0 = 10 }) key_a) ∷ on_line 3 (Line.Batch (batch_of_txn (get key_a ∷ [])) nothing_beside) ∷ on_line 4 Line.Close ∷ []

abbrev none_seen : List Reply
none_seen = saying (Body.Got None) ∷ []

abbrev txn_entry : Entry
txn_entry = Entry.Batch 3 (Send 1 (piece (by_txn 1) 1 (get key_a ∷ [])) (Done none_seen) ∷ []) (Outcome.Ok none_seen)

abbrev txn_log : List Entry
txn_log = txn_entry ∷ closing 4 ∷ []

abbrev txn_asks : Asks
txn_asks = record { asker = Some (open_txn.asker); begun = 1 }

abbrev txn_world : RecordStatus → World
txn_world s = record begun { records = txn_record 1 s ∷ [] }

its_get_plays : BatchPlays (record { world = txn_world RecordStatus.Pending; asks = txn_asks }) (batch_of_txn (get key_a ∷ [])) nothing_beside (Send 1 (piece (by_txn 1) 1 (get key_a ∷ [])) (Done none_seen) ∷ []) (txn_world RecordStatus.Pending)
its_get_plays = record { asked = asked_by (by_txn 1) (get key_a ∷ []); asks = refl; plays = (a_get_is_a_piece_of_its_batch (by_txn 1) None, refl, refl) }

a_transaction_that_reads_has_a_legal_journal : LegalJournal txn_script txn_log
a_transaction_that_reads_has_a_legal_journal = (
  record { world = txn_world RecordStatus.Aborted; asks = record { asker = None; begun = 1 } },
  (None, txn_log, played begun, refl, (refl, refl), (None, txn_log, record { world = txn_world RecordStatus.Pending; asks = txn_asks }, refl, (refl, refl), (Some txn_entry, closing 4 ∷ [], record { world = txn_world RecordStatus.Pending; asks = txn_asks }, (refl, refl), (its_get_plays, refl), (Some (closing 4), [], record { world = txn_world RecordStatus.Aborted; asks = record { asker = None; begun = 1 } }, (refl, refl), ((refl, refl), refl), (refl, refl))))),
)

a_close_tells_how_the_record_stands : WorldAfter (played (with_record RecordStatus.Committed)) Line.Close (Some (Entry.Closed 2 TxnStatus.Committed)) (closed (with_record RecordStatus.Committed))
a_close_tells_how_the_record_stands = (refl, refl)

abbrev is_committed : TxnStatus → Bool
is_committed TxnStatus.Committed = true
is_committed s = false

a_close_doesnt_commit_what_is_pending : (w : World) → WorldAfter (played (with_record RecordStatus.Pending)) Line.Close (Some (Entry.Closed 2 TxnStatus.Committed)) w → ⊥
a_close_doesnt_commit_what_is_pending w h = differs h.0 is_committed refl refl

a_batchs_entry_is_none_of_a_close : (w : World) → WorldAfter (played begun) Line.Close (Some (entry 7)) w → ⊥
a_batchs_entry_is_none_of_a_close w h = h

a_close_without_its_entry_is_not_legal : (w : World) → WorldAfter (played begun) Line.Close None w → ⊥
a_close_without_its_entry_is_not_legal w h = h

the_first_transaction_has_number_1 : (asks_after (Line.Begin (record { 0 = 10 }) key_a) None no_asks).asker ≡ Some (record { number = 1; stamp = 10; epoch = 0; last = 0 })
the_first_transaction_has_number_1 = refl

-- ---- gathered replies

-- a scan over the border, of one state or not, in a piece for each range
abbrev scan_batch : Bool → Batch
scan_batch one_state = record (batch_at 20 (scan key_a key_z ∷ [])) { consistent = one_state }

abbrev two_pieces : List JournalStep
two_pieces =
    Send 1 (piece (alone_at 20) 1 (scan key_a key_g ∷ [])) (Done (saying (Body.Rows (row key_a 7 ∷ [])) ∷ []))
    ∷ Send 2 (piece (alone_at 20) 2 (scan key_g key_z ∷ [])) (Done (saying (Body.Rows (row key_m 9 ∷ [])) ∷ []))
    ∷ []

abbrev both_rows : Outcome
both_rows = Outcome.Ok (saying (Body.Rows (row key_a 7 ∷ row key_m 9 ∷ [])) ∷ [])

two_pieces_are_gathered : BatchGathers no_asks (scan_batch false) two_pieces both_rows
two_pieces_are_gathered = (
  record (asked_at 20 (scan key_a key_z ∷ [])) { consistent = false },
  refl,
  (record { whole = refl; joins = (key_g, Body.Rows (row key_m 9 ∷ []), refl, refl, (key_z, Body.Rows [], refl, refl, (refl, refl), refl), refl) }, tt),
  tt,
)

one_state_isnt_seen_in_two_pieces : BatchGathers no_asks (scan_batch true) two_pieces both_rows → ⊥
one_state_isnt_seen_in_two_pieces h = differs h.3 (λ n. n == 2) refl refl

what_fails_need_not_be_gathered : BatchGathers no_asks (scan_batch true) two_pieces Outcome.TxnAborted
what_fails_need_not_be_gathered = tt

the_gets_reply_is_gathered : AllGathered script (entry 7 ∷ [])
the_gets_reply_is_gathered = (
  no_asks,
  (None, entry 7 ∷ [], no_asks, refl, (tt, refl), (None, entry 7 ∷ [], no_asks, refl, (tt, refl), (Some (entry 7), [], no_asks, (refl, refl), (of_one_piece, refl), (refl, refl)))),
)
  where
    of_one_piece : BatchGathers no_asks (batch_at 20 (get key_a ∷ [])) (look ∷ get_gave 7 ∷ []) (Outcome.Ok (got 7 ∷ []))
    of_one_piece = (asked_at 20 (get key_a ∷ []), refl, (record { whole = refl; joins = (after key_a, Body.Got None, refl, refl, (refl, refl), refl) }, tt), refl)

-- ---- plain runs

-- what the store holds after the write
abbrev told : Store
told = record empty_store { cells = (key_a, holding (version 4 7 ∷ [])) ∷ [] }

its_answer_is_plain : IsPlainOk told (batch_at 20 (get key_a ∷ [])) (Outcome.Ok (got 7 ∷ [])) (got 7 ∷ []) told
its_answer_is_plain = record {
  unlimited = refl;
  pending = refl;
  asked = asked_at 20 (get key_a ∷ []);
  asks = refl;
  cells = told.cells;
  writes = [];
  gives = refl;
  next = refl;
}

a_get_sees_the_write_in_a_plain_run : PlainRun script (entry 7 ∷ [])
a_get_sees_the_write_in_a_plain_run = (
  told,
  (None, entry 7 ∷ [], empty_store, refl, refl, (None, entry 7 ∷ [], told, refl, refl, (Some (entry 7), [], told, (refl, refl), (told, its_answer_is_plain, refl), (refl, refl)))),
)

it_sees_nothing_else : PlainRun script (entry 9 ∷ []) → ⊥
it_sees_nothing_else h =
    let first = plays_on PlainTurn empty_store h.0 (on_line 1 cluster) (on_line 2 write_7 ∷ on_line 3 get_line ∷ []) (entry 9 ∷ []) refl h.1 in
    let second = plays_on PlainTurn first.0 h.0 (on_line 2 write_7) (on_line 3 get_line ∷ []) (entry 9 ∷ []) refl first.2 in
    let third = plays_entry PlainTurn second.0 h.0 (on_line 3 get_line) [] (entry 9) [] refl second.2 in
    let same : second.0 ≡ told = second.1 ∙ ap (after_event (wrote key_a 4 7)) first.1 in
    let seen : replies_in (ask_all (alone_at 20) (asked_at 20 (get key_a ∷ [])).items second.0.cells) ≡ got 9 ∷ [] = shows second.0 (batch_at 20 (get key_a ∷ [])) (asked_at 20 (get key_a ∷ [])) (got 9 ∷ []) third.2.0 refl third.2.1 in
    differs (ap (λ p. replies_in (ask_all (alone_at 20) (asked_at 20 (get key_a ∷ [])).items p.cells)) (sym same) ∙ seen) (λ rs. number_in (Done rs) == 7) refl refl

-- that a failure is the store's own is said by the causes of a log, and not by its plain run
a_plain_run_doesnt_tell_why_a_batch_failed : PlainRun script (Entry.Batch 3 [] (Outcome.NotInteger 0) ∷ [])
a_plain_run_doesnt_tell_why_a_batch_failed = (
  told,
  (None, Entry.Batch 3 [] (Outcome.NotInteger 0) ∷ [], empty_store, refl, refl, (None, Entry.Batch 3 [] (Outcome.NotInteger 0) ∷ [], told, refl, refl, (Some (Entry.Batch 3 [] (Outcome.NotInteger 0)), [], told, (refl, refl), (told, refl, refl), (refl, refl)))),
)

-- the store while the transaction is open, which has asked so many batches
abbrev opened : ℕ → Store
opened n = record { cells = []; txn = Some (record open_txn { batches = n }); begun = 1 }

its_get_is_plain : IsPlainOk (opened 0) (batch_of_txn (get key_a ∷ [])) (Outcome.Ok none_seen) none_seen (opened 1)
its_get_is_plain = record {
  unlimited = refl;
  pending = refl;
  asked = asked_by (by_txn 1) (get key_a ∷ []);
  asks = refl;
  cells = [];
  writes = [];
  gives = refl;
  next = refl;
}

a_transaction_that_reads_has_a_plain_run : PlainRun txn_script txn_log
a_transaction_that_reads_has_a_plain_run = (
  record { cells = []; txn = None; begun = 1 },
  (None, txn_log, empty_store, refl, refl, (None, txn_log, opened 0, refl, refl, (Some txn_entry, closing 4 ∷ [], opened 1, (refl, refl), (opened 1, its_get_is_plain, refl), (Some (closing 4), [], record { cells = []; txn = None; begun = 1 }, (refl, refl), (refl, refl), (refl, refl))))),
)

abbrev beside_it : Block
beside_it = record { events = record { at = 1; event = wrote key_a 12 5 } ∷ []; picks = [] }

what_happens_beside_a_batch_comes_after_it : BatchNext told (batch_at 20 (get key_a ∷ [])) beside_it (Outcome.Ok (got 7 ∷ [])) (after_event (wrote key_a 12 5) told)
what_happens_beside_a_batch_comes_after_it = (told, its_answer_is_plain, refl)

a_begin_opens_the_next_transaction : PlainTurn store (Line.Begin (record { 0 = 10 }) key_a) None (store_in open_txn)
a_begin_opens_the_next_transaction = refl

-- the store with a write of transaction 1 at a
abbrev with_intent : StoreTxn → Store
with_intent t = record (store_in t) { cells = (key_a, record { versions = version 4 7 ∷ []; owner = 1; epoch = 0; history = write 1 5 ∷ []; waiting = [] }) ∷ [] }

a_close_aborts_what_is_pending : Closes (Some open_txn) TxnStatus.Aborted (with_intent open_txn) (record store { cells = (key_a, record (holding (version 4 7 ∷ [])) { owner = 1 }) ∷ []; begun = 1 })
a_close_aborts_what_is_pending = (refl, refl)

a_close_makes_what_is_committed : Closes (Some (record open_txn { fate = Committed })) TxnStatus.Committed (with_intent open_txn) (record store { cells = (key_a, record (holding (version 4 7 ∷ version 10 5 ∷ [])) { owner = 1 }) ∷ []; begun = 1 })
a_close_makes_what_is_committed = (refl, refl)

what_is_pending_doesnt_close_committed : (after : Store) → PlainTurn (store_in open_txn) Line.Close (Some (Entry.Closed 2 TxnStatus.Committed)) after → ⊥
what_is_pending_doesnt_close_committed after h = differs h.0 is_committed refl refl

nothing_closes_where_none_is_open : (after : Store) → PlainTurn store Line.Close (Some (closing 2)) after → ⊥
nothing_closes_where_none_is_open after h = h
