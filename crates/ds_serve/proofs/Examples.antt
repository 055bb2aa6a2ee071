-- Worked examples of this crate's definitions, some that hold and some that must not.
use Rattle.std.proofs.Common.{◌≡◌, ℕ, Bool, true, false, List, [], ◌∷◌, Option, Some, None, replicate, refl}
use Rattle.ds_base.specs.Order.{Extent}
use Rattle.ds_kind.specs.declared.batch.Item.{Item}
use Rattle.ds_kind.specs.declared.reply.Body.TheVariants as Said
use Rattle.ds_kind.specs.declared.reply.Reply.{Reply}
use Rattle.ds_kind.specs.declared.reply.TxnStatus.TheVariants as Says
use Rattle.ds_kind.specs.declared.request.Request.{Request}
use Rattle.ds_kind.specs.declared.request.Request.TheVariants.{EndTxn, Scan}
use Rattle.ds_cell.specs.Ask.{Cells}
use Rattle.ds_cell.specs.Content.{no_content}
use Rattle.ds_rule.specs.declared.record.RecordStatus.{RecordStatus}
use Rattle.ds_rule.specs.declared.record.RecordStatus.TheVariants as Status
use Rattle.ds_rule.specs.declared.record.TxnRecord.{TxnRecord}
use Rattle.ds_serve.specs.Ends.{first_end, reopened}
use Rattle.ds_serve.specs.Shares.{CanResume}
use Rattle.ds_serve.specs.Writes.{keys_written}

abbrev item : Request → Item
item r = record { pos = 0; seq = record { 0 = 0 }; request = r }

abbrev scan : List ℕ → List ℕ → Item
scan s e = item (Scan (record { start = s; end = e }))

-- ---- what is left of a span can be said

abbrev longest : Cells
longest = (replicate 65 97, no_content) ∷ []

a_short_key_can_be_followed : CanResume (Some 1) (scan (97 ∷ []) (98 ∷ []) ∷ []) ((97 ∷ [], no_content) ∷ [])
a_short_key_can_be_followed = (refl, (refl, tt))

nothing_comes_behind_the_longest_key : CanResume (Some 1) [] longest → ⊥
nothing_comes_behind_the_longest_key h = let no : false ≡ true = h.1.0 in cc

without_a_limit_it_may_stand : CanResume None [] longest
without_a_limit_it_may_stand = tt

an_empty_span_cant_be_left : CanResume (Some 1) (scan (97 ∷ []) (97 ∷ []) ∷ []) [] → ⊥
an_empty_span_cant_be_left h = let no : false ≡ true = h.0 in cc

-- ---- ends

abbrev end : Bool → Item
end commit = item (EndTxn (record { key = 97 ∷ []; commit = commit; one_phase = false; parallel = false; in_flight = [] }))

abbrev ended : Option Extent → Reply
ended rest = record { body = Said.Ended Says.Committed; resume = rest }

the_first_end_is_found : first_end (end true ∷ end false ∷ []) (ended None ∷ ended None ∷ []) ≡ Some true
the_first_end_is_found = refl

one_still_to_be_asked_is_passed_over : first_end (end true ∷ end false ∷ []) (ended (Some (record { start = 97 ∷ []; end = 98 ∷ [] })) ∷ ended None ∷ []) ≡ Some false
one_still_to_be_asked_is_passed_over = refl

the_second_doesnt_count : first_end (end true ∷ end false ∷ []) (ended None ∷ ended None ∷ []) ≡ Some false → ⊥
the_second_doesnt_count h = let no : Some true ≡ Some false = h in cc

abbrev record_of_one : RecordStatus → TxnRecord
record_of_one s = record { txn = record { 0 = 1 }; stamp = record { 0 = 5 }; epoch = 0; status = s }

what_was_ended_is_pending_again : reopened (Some (record { 0 = 1 })) (record_of_one Status.Committed ∷ []) ≡ record_of_one Status.Pending ∷ []
what_was_ended_is_pending_again = refl

what_wasnt_ended_stays : reopened None (record_of_one Status.Committed ∷ []) ≡ record_of_one Status.Committed ∷ []
what_wasnt_ended_stays = refl

-- ---- keys with writes

abbrev one_written : Cells
one_written = (97 ∷ [], record no_content { history = record { seq = record { 0 = 1 }; value = None } ∷ [] }) ∷ (98 ∷ [], no_content) ∷ []

a_key_with_writes_is_noted : keys_written one_written ≡ (97 ∷ []) ∷ []
a_key_with_writes_is_noted = refl
