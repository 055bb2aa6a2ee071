-- Worked examples of requests under a limit, of what they resolve, and of ends, some that hold and some that must not.
use Rattle.std.proofs.Common.{◌≡◌, ℕ, suc, ◌==◌, Bool, true, false, List, [], ◌∷◌, length, Option, Some, None, pos, refl}
use Rattle.std.specs.Option.{is_some}
use Rattle.ds_base.specs.Order.{Extent, after}
use Rattle.ds_base.specs.Ordered.{key_eq}
use Rattle.ds_base.specs.declared.value.Value.TheVariants.{Int}
use Rattle.ds_kind.specs.declared.batch.Item.{Item}
use Rattle.ds_kind.specs.declared.reply.Body.{Body}
use Rattle.ds_kind.specs.declared.reply.Reply.{Reply}
use Rattle.ds_kind.specs.declared.reply.Row.{Row}
use Rattle.ds_kind.specs.declared.reply.TxnStatus.TheVariants as Says
use Rattle.ds_kind.specs.declared.request.Request.{Request}
use Rattle.ds_kind.specs.declared.request.Request.TheVariants.{DeleteRange, EndTxn, ResolveIntentRange}
use Rattle.ds_cell.specs.Ask.{Cells}
use Rattle.ds_cell.specs.Content.{no_content}
use Rattle.ds_rule.specs.declared.record.RecordStatus.{RecordStatus}
use Rattle.ds_rule.specs.declared.record.RecordStatus.TheVariants as Status
use Rattle.ds_rule.specs.declared.record.TxnRecord.{TxnRecord}
use Rattle.ds_rule.specs.Asking.{Made, Gives, Fails}
use Rattle.ds_rule.specs.Endings.{all_ended}
use Rattle.ds_rule.specs.Serve.{serve}
use Rattle.ds_rule.proofs.Examples.{key_a, key_b, key_m, key_z, version, write, holding, get, scan, scan_back, alone_at, by_txn, differs, txn_record}

-- ---- what is asked of three rows

abbrev three_rows : Cells
three_rows = (key_a, holding (version 4 1 ∷ [])) ∷ (key_b, holding (version 4 2 ∷ [])) ∷ (key_m, holding (version 4 3 ∷ [])) ∷ []

abbrev item : ℕ → ℕ → Request → Item
item i n r = record { pos = i; seq = record { 0 = n }; request = r }

abbrev delete_range : List ℕ → List ℕ → Request
delete_range s e = DeleteRange (record { start = s; end = e })

abbrev row : List ℕ → ℕ → Row
row k n = record { key = k; value = Int (pos n) }

abbrev left_of : List ℕ → List ℕ → Option Extent
left_of s e = Some (record { start = s; end = e })

abbrev said : Body → Option Extent → Reply
said b rest = record { body = b; resume = rest }

abbrev replies_of : Made → List Reply
replies_of (Gives cells ws rs) = rs
replies_of (Fails f) = []

abbrev cells_of : Made → Cells
cells_of (Gives cells ws rs) = cells
cells_of (Fails f) = []

-- what these requests are answered at stamp 10, with so much left
abbrev answers : Option ℕ → List Item → List Reply
answers left is = replies_of (serve [] (alone_at 10) left is three_rows)

two_of_three_rows : answers (Some 2) (item 0 0 (scan key_a key_z) ∷ []) ≡ said (Body.Rows (row key_a 1 ∷ row key_b 2 ∷ [])) (left_of (after key_b) key_z) ∷ []
two_of_three_rows = refl

two_of_three_in_reverse : answers (Some 2) (item 0 0 (scan_back key_a key_z) ∷ []) ≡ said (Body.Rows (row key_m 3 ∷ row key_b 2 ∷ [])) (left_of key_a key_b) ∷ []
two_of_three_in_reverse = refl

-- the last row taken was the span's last key
an_empty_rest_is_none : answers (Some 2) (item 0 0 (scan key_a (after key_b)) ∷ []) ≡ said (Body.Rows (row key_a 1 ∷ row key_b 2 ∷ [])) None ∷ []
an_empty_rest_is_none = refl

no_limit_is_used_up_by_fewer_rows : answers (Some 4) (item 0 0 (scan key_a key_z) ∷ []) ≡ said (Body.Rows (row key_a 1 ∷ row key_b 2 ∷ row key_m 3 ∷ [])) None ∷ []
no_limit_is_used_up_by_fewer_rows = refl

with_nothing_left_all_is_left : answers (Some 0) (item 0 0 (scan key_a key_z) ∷ item 1 0 (get key_a) ∷ []) ≡ said (Body.Rows []) (left_of key_a key_z) ∷ said (Body.Got None) (left_of key_a (after key_a)) ∷ []
with_nothing_left_all_is_left = refl

-- each takes what those before it left
what_the_first_took_the_second_lacks : answers (Some 2) (item 0 0 (get key_a) ∷ item 1 0 (scan key_a key_z) ∷ []) ≡ said (Body.Got (Some (Int (pos 1)))) None ∷ said (Body.Rows (row key_a 1 ∷ [])) (left_of (after key_a) key_z) ∷ []
what_the_first_took_the_second_lacks = refl

abbrev starts_at : List ℕ → List Reply → Bool
starts_at k [] = false
starts_at k (r ∷ rs) = begins r.resume
  where
    begins : Option Extent → Bool
    begins None = false
    begins (Some e) = key_eq e.start k

the_last_row_isnt_left : answers (Some 2) (item 0 0 (scan key_a key_z) ∷ []) ≡ said (Body.Rows (row key_a 1 ∷ row key_b 2 ∷ [])) (left_of key_b key_z) ∷ [] → ⊥
the_last_row_isnt_left h = differs h (starts_at (after key_b)) refl refl

abbrev stops_second : List Reply → Bool
stops_second [] = false
stops_second (r ∷ []) = false
stops_second (r ∷ q ∷ rs) = is_some q.resume

a_limit_isnt_whole_for_the_second : answers (Some 1) (item 0 0 (get key_a) ∷ item 1 0 (get key_b) ∷ []) ≡ said (Body.Got (Some (Int (pos 1)))) None ∷ said (Body.Got (Some (Int (pos 2)))) None ∷ [] → ⊥
a_limit_isnt_whole_for_the_second h = differs h stops_second refl refl

-- ---- deletions under a limit

-- at a transaction 1 deleted under the number 1 before, and at b and m stand rows
abbrev one_deleted : Cells
one_deleted = (key_a, record (holding (version 4 1 ∷ [])) { owner = 1; history = record { seq = record { 0 = 1 }; value = None } ∷ [] }) ∷ (key_b, holding (version 4 2 ∷ [])) ∷ (key_m, holding (version 4 3 ∷ [])) ∷ []

abbrev deleting : Option ℕ → Made
deleting left = serve [] (by_txn 1) left (item 0 1 (delete_range key_a key_z) ∷ []) one_deleted

a_key_that_was_deleted_before_is_taken_again : replies_of (deleting (Some 2)) ≡ said (Body.Gone (key_a ∷ key_b ∷ [])) (left_of (after key_b) key_z) ∷ []
a_key_that_was_deleted_before_is_taken_again = refl

-- the number of keys with a write
abbrev writes_in : Cells → ℕ
writes_in [] = 0
writes_in (p ∷ ps) = with_one (length p.1.history == 0) (writes_in ps)
  where
    with_one : Bool → ℕ → ℕ
    with_one true n = n
    with_one false n = suc n

what_isnt_taken_isnt_deleted : writes_in (cells_of (deleting (Some 2))) ≡ 2
what_isnt_taken_isnt_deleted = refl

nothing_is_deleted_with_nothing_left : cells_of (deleting (Some 0)) ≡ one_deleted
nothing_is_deleted_with_nothing_left = refl

not_all_are_deleted : writes_in (cells_of (deleting (Some 2))) ≡ 3 → ⊥
not_all_are_deleted h = differs h (λ n. n == 2) refl refl

-- ---- what is resolved by the records

-- at a and m stand writes of transaction 1, whose record has this status
abbrev two_intents : Cells
two_intents = (key_a, record no_content { owner = 1; history = write 1 8 ∷ [] }) ∷ (key_m, record no_content { owner = 1; history = write 2 9 ∷ [] }) ∷ []

abbrev resolving : RecordStatus → Option ℕ → Cells
resolving s left = cells_of (serve (txn_record 1 s ∷ []) (alone_at 20) left (item 0 0 (ResolveIntentRange (record { start = key_a; end = key_b; txn = record { 0 = 1 } })) ∷ []) two_intents)

a_committed_intent_becomes_a_version : resolving Status.Committed None ≡ (key_a, record no_content { versions = version 10 8 ∷ []; owner = 1 }) ∷ (key_m, record no_content { owner = 1; history = write 2 9 ∷ [] }) ∷ []
a_committed_intent_becomes_a_version = refl

an_aborted_intent_is_dropped : resolving Status.Aborted None ≡ (key_a, record no_content { owner = 1 }) ∷ (key_m, record no_content { owner = 1; history = write 2 9 ∷ [] }) ∷ []
an_aborted_intent_is_dropped = refl

a_pending_intent_stays : resolving Status.Pending None ≡ two_intents
a_pending_intent_stays = refl

nothing_is_resolved_with_nothing_left : resolving Status.Committed (Some 0) ≡ two_intents
nothing_is_resolved_with_nothing_left = refl

what_is_committed_doesnt_stay : writes_in (resolving Status.Committed None) ≡ 2 → ⊥
what_is_committed_doesnt_stay h = differs h (λ n. n == 1) refl refl

-- ---- what ends do to the records

abbrev an_end : Bool → Item
an_end commit = item 0 0 (EndTxn (record { key = key_a; commit = commit; one_phase = false; parallel = false; in_flight = [] }))

abbrev was_asked : Reply
was_asked = said (Body.Ended Says.Committed) None

the_first_end_counts : all_ended (by_txn 1) (an_end true ∷ an_end false ∷ []) (was_asked ∷ was_asked ∷ []) (txn_record 1 Status.Pending ∷ []) ≡ txn_record 1 Status.Committed ∷ []
the_first_end_counts = refl

an_aborted_record_stays : all_ended (by_txn 1) (an_end true ∷ []) (was_asked ∷ []) (txn_record 1 Status.Aborted ∷ []) ≡ txn_record 1 Status.Aborted ∷ []
an_aborted_record_stays = refl

an_end_that_is_still_to_be_asked_ends_nothing : all_ended (by_txn 1) (an_end true ∷ []) (said (Body.Ended Says.Committed) (left_of key_a (after key_a)) ∷ []) (txn_record 1 Status.Pending ∷ []) ≡ txn_record 1 Status.Pending ∷ []
an_end_that_is_still_to_be_asked_ends_nothing = refl

who_has_no_transaction_ends_nothing : all_ended (alone_at 20) (an_end true ∷ []) (was_asked ∷ []) (txn_record 1 Status.Pending ∷ []) ≡ txn_record 1 Status.Pending ∷ []
who_has_no_transaction_ends_nothing = refl

abbrev is_aborted : List TxnRecord → Bool
is_aborted [] = false
is_aborted (t ∷ ts) = by t.status
  where
    by : RecordStatus → Bool
    by Status.Pending = false
    by Status.Committed = false
    by Status.Aborted = true
    by (Status.Staging fs) = false

an_aborted_record_isnt_committed : all_ended (by_txn 1) (an_end true ∷ []) (was_asked ∷ []) (txn_record 1 Status.Aborted ∷ []) ≡ txn_record 1 Status.Committed ∷ [] → ⊥
an_aborted_record_isnt_committed h = differs h is_aborted refl refl
