-- Worked examples of what a call did and of what it means, of a served piece, and of coverage: some that hold, some that must not.
use Rattle.std.proofs.Common.{◌≡◌, ◌<◌, true, false, nat_eq, List, [], ◌∷◌, ◌++◌, length, Some, None, inl, inr, refl, subst}
use Rattle.std.specs.Option.{is_none, is_some}
use Rattle.ds_kind.specs.declared.batch.Batch.{Batch}
use Rattle.ds_kind.specs.declared.batch.Item.{Item}
use Rattle.ds_kind.specs.declared.illegal.Illegal.TheVariants as Breaks
use Rattle.ds_kind.specs.declared.reply.Failure.{Failure}
use Rattle.ds_kind.specs.declared.reply.Reply.{Reply}
use Rattle.ds_kind.specs.declared.request.Request.{Request}
use Rattle.ds_kind.specs.declared.request.Request.TheVariants.{EndTxn}
use Rattle.ds_cell.specs.declared.verdict.ActFault.TheVariants as Fault
use Rattle.ds_cell.specs.Store.{FailedSince, Pending, Store, empty_store}
use Rattle.ds_cover.specs.Coverage.{Covered}
use Rattle.ds_rule.specs.declared.answer.Answer.TheVariants.{Failed, Lost}
use Rattle.ds_rule.specs.declared.answer.Outcome.{Outcome}
use Rattle.ds_rule.specs.declared.journal.JournalStep.TheVariants.{Send}
use Rattle.ds_rule.specs.declared.record.RecordStatus.TheVariants as Status
use Rattle.ds_rule.specs.Asking.{Asking}
use Rattle.ds_rule.specs.Clauses.{Stands}
use Rattle.ds_rule.specs.Deliver.{deliver_world}
use Rattle.ds_rule.specs.Journal.{Happening, Did}
use Rattle.ds_rule.specs.Turn.{TurnFails, turn}
use Rattle.ds_rule.proofs.Examples.{alone_at, asked_at, asked_by, batch_at, by_txn, differs, get, got, holding, key_a, key_b, key_g, piece, put, scan, txn_record, version}
use Rattle.ds_rule.proofs.ExamplesOfJournals.{get_gave, get_piece}
use Rattle.ds_rule.proofs.Service.{service}
use Rattle.ds_mean.specs.InTurn.{AreFirst}
use Rattle.ds_mean.specs.Send.{CameToFail, CameWhole, HasLaw, IsOfAll, IsProperBatch, IsTurnCause, IsUnsent, LeadsOn, TurnFailed, WritesAlone}
use Rattle.ds_mean.specs.Serving.{Beside, InRange, Served}
use Rattle.ds_mean.proofs.Covering.{blocks_first}
use Rattle.ds_mean.proofs.Examples.{before, it_means_its_store, its_batch, its_store, its_world}
use Rattle.ds_mean.proofs.Serving.{served-shows}
use Rattle.ds_mean.proofs.Unsent.{unsent_law}

-- ---- what a call did

a_put_writes_alone : WritesAlone (asked_at 20 (put key_a 7 ∷ []))
a_put_writes_alone = (refl, refl)

not_a_get : WritesAlone (asked_at 20 (get key_a ∷ [])) → ⊥
not_a_get h = let never : false ≡ true = h.1 in cc

not_a_put_of_a_transaction : WritesAlone (asked_by (by_txn 1) (put key_a 7 ∷ [])) → ⊥
not_a_put_of_a_transaction h = differs h.0 is_some refl refl

not_half_of_it : IsOfAll (asked_at 20 (put key_a 7 ∷ put key_b 8 ∷ [])) (Did (Send 1 (piece (alone_at 20) 1 (put key_a 7 ∷ [])) Lost)) → ⊥
not_half_of_it h = differs h (λ js. nat_eq (length js) 1) refl refl

-- a get at b was never answered
not_whole_without_the_second : (replies : List Reply) → CameWhole (asked_at 20 (get key_a ∷ get key_b ∷ [])) (Did (get_gave 7) ∷ []) replies → ⊥
not_whole_without_the_second replies h = differs (h.all key_b) (λ ns. nat_eq (length ns) 1) refl refl

abbrev too_old : Failure
too_old = Failure.TooOld 0 key_a (record { 0 = 4 })

abbrev a_put_failed : List Happening
a_put_failed = Did (Send 1 (piece (alone_at 3) 1 (put key_a 2 ∷ [])) (Failed too_old)) ∷ []

it_came_to_fail : CameToFail (asked_at 3 (put key_a 2 ∷ [])) a_put_failed too_old
it_came_to_fail = record {
  left = (key_a, 0, [], refl);
  last = record { before = []; node = 1; piece = piece (alone_at 3) 1 (put key_a 2 ∷ []); last = refl };
}

not_with_another_failure : (h : CameToFail (asked_at 3 (put key_a 2 ∷ [])) a_put_failed Failure.Aborted) → h.last.before ≡ [] → ⊥
not_with_another_failure h none = let last = h.last.last in cc

-- ---- what it means

abbrev with_four : Store
with_four = record empty_store { cells = (key_a, holding (version 4 7 ∷ [])) ∷ [] }

-- a version at 4 stands above a put at 3
the_put_fails : TurnFailed (asked_at 3 (put key_a 2 ∷ [])) with_four [] too_old
the_put_fails = record { key = key_a; position = 0; fault = Fault.TooOld (record { 0 = 4 }); says = refl; young = λ h. refl; old = λ h. refl }

-- and not above a put at 5
not_at_five : (h : TurnFailed (asked_at 5 (put key_a 2 ∷ [])) with_four [] too_old) → h.key ≡ key_a → h.fault ≡ Fault.TooOld (record { 0 = 4 }) → ⊥
not_at_five h at fault =
    let fails : turn (asked_at 5 (put key_a 2 ∷ [])) key_a with_four.cells ≡ TurnFails h.position h.fault =
    subst (λ k. turn (asked_at 5 (put key_a 2 ∷ [])) k with_four.cells ≡ TurnFails h.position h.fault) at (h.old (record { 0 = 4 }, fault)) in
    cc

not_in_doubt_without_a_loss : IsTurnCause its_store (asked_at 20 (get key_a ∷ [])) [] (Outcome.Ambiguous 1) → ⊥
not_in_doubt_without_a_loss h = h

not_aborted_without_a_transaction : IsTurnCause empty_store (asked_at 20 (get key_a ∷ [])) [] Outcome.TxnAborted → ⊥
not_aborted_without_a_transaction h = h

not_a_batch_of_nothing : IsProperBatch (batch_at 20 []) → 0 < 0
not_a_batch_of_nothing h = h.some

not_under_a_limit : (q : Asking) → HasLaw its_store (record its_batch { limit = Some 3 }) q → ⊥
not_under_a_limit q h = differs h.unlimited is_some refl refl

-- ---- a batch that isn't sent

abbrev failed_second : Store
failed_second = record its_store { txn = Some (record { asker = record { number = 1; stamp = 30; epoch = 0; last = 2 }; fate = Pending; mode = FailedSince 2; batches = 2 }); begun = 1 }

abbrev of_it : List Request → Batch
of_it rs = record { at = None; consistent = true; limit = None; requests = rs }

abbrev rollback : Request
rollback = EndTxn (record { key = key_a; commit = false; one_phase = false; parallel = false; in_flight = [] })

a_get_isnt_sent : IsUnsent failed_second (of_it (get key_a ∷ [])) (Outcome.MustRollBack 2)
a_get_isnt_sent = inr refl

but_a_rollback_is : IsUnsent failed_second (of_it (rollback ∷ [])) (Outcome.MustRollBack 2) → ⊥
but_a_rollback_is (inl broken) = let never = broken.1 in cc
but_a_rollback_is (inr refused) = differs refused is_none refl refl

it_leads_on : LeadsOn before before its_store (batch_at 20 []) (Outcome.Illegal Breaks.Empty)
it_leads_on = unsent_law before its_store (batch_at 20 []) (Outcome.Illegal Breaks.Empty) it_means_its_store (inl (Breaks.Empty, refl))

not_for_want_of_memory : (a b : Stands) → LeadsOn a b its_store its_batch Outcome.OutOfMemory → ⊥
not_for_want_of_memory a b h = h.answered

-- ---- a served piece

it_was_served : Served its_world (deliver_world its_world 1 get_piece) get_piece (got 7 ∷ [])
it_was_served = served-shows its_world (deliver_world its_world 1 get_piece) 1 get_piece (got 7 ∷ []) refl it_means_its_store.keeps (service its_world 1 get_piece (got 7 ∷ []) refl) refl

-- the key that it speaks of is one of its range
not_beside_its_key : Beside its_world its_world get_piece [] key_a → ⊥
not_beside_its_key h = differs h.none (λ js. nat_eq (length js) 1) refl refl

-- and a range that held nothing there is another
not_of_an_empty_range : InRange its_world its_world get_piece [] [] [] key_a → ⊥
not_of_an_empty_range h = differs h.there (λ c. nat_eq (length c.versions) 0) refl refl

not_with_a_new_record : (rs : List Reply) → Served its_world (record its_world { records = txn_record 1 Status.Pending ∷ [] }) get_piece rs → ⊥
not_with_a_new_record rs h = differs h.records (λ ts. nat_eq (length ts) 1) refl refl

-- ---- coverage

abbrev three : List Item
three = (asked_at 20 (put key_a 7 ∷ scan key_a key_g ∷ get key_b ∷ [])).items

in_one_block : Covered three (three ∷ [])
in_one_block k = inl (refl, tt)

one_block_is_first : AreFirst three ([] ++ three)
one_block_is_first = blocks_first three [] three [] in_one_block

abbrev put_and_get : List Item
put_and_get = (asked_at 20 (put key_a 7 ∷ get key_b ∷ [])).items

-- the scan is in no block
not_without_the_scan : Covered three (put_and_get ∷ []) → ⊥
not_without_the_scan h = elim (h key_a) [
  | inl one ↦ differs one.0 (λ ns. nat_eq (length ns) 1) refl refl
  | inr none ↦ differs none.0 (λ ns. nat_eq (length ns) 1) refl refl
]
