-- A transaction as its client knows it: who asks, what is refused, and what becomes of it as its batches are answered.
use Rattle.std.specs.Prelude.{◌≡◌, ℕ, ◌+◌, Bool, true, false, List, [], ◌∷◌, Option, Some, None, if◌then◌else◌, refl}
use Rattle.std.specs.Option.{option_map}
use Rattle.ds_base.specs.declared.value.Stamp.{Stamp}
use Rattle.ds_base.specs.declared.value.TxnNo.{TxnNo}
use Rattle.ds_kind.specs.declared.batch.Batch.{Batch}
use Rattle.ds_kind.specs.declared.reply.TxnStatus.{TxnStatus}
use Rattle.ds_kind.specs.declared.reply.TxnStatus.TheVariants as Says
use Rattle.ds_kind.specs.declared.request.Request.{Request}
use Rattle.ds_kind.specs.declared.request.Request.TheVariants.{Delete, EndTxn, Get}
use Rattle.ds_cell.specs.Store.{Asker}
use Rattle.ds_rule.specs.declared.answer.Outcome.{Outcome}
use Rattle.ds_rule.specs.Deliver.{is_rollback}
use Rattle.ds_rule.specs.Plain.{count_numbered, if_of_txn, one_batch_more, uses_numbers}
use Rattle.ds_coord.specs.declared.txn.Txn.{Txn}
use Rattle.ds_coord.specs.declared.txn.TxnState.{TxnState}
use Rattle.ds_coord.specs.declared.txn.TxnState.TheVariants as State

-- who asks
abbrev pub asker_of : Txn → Asker
asker_of c = record { number = c.number.0; stamp = c.stamp.0; epoch = c.epoch; last = c.last.0 }

abbrev pub asker_in : Option Txn → Option Asker
asker_in c = option_map asker_of c

-- one that has asked nothing yet
abbrev pub begun : TxnNo → Stamp → Txn
begun n s = record { number = n; stamp = s; epoch = 0; last = record { 0 = 0 }; state = State.Live; batches = 0 }

-- the answer of a batch of these requests, if it isn't sent
abbrev pub refusal_in : TxnState → List Request → Option Outcome
refusal_in State.Live rs = None
refusal_in (State.Failed since) rs = if is_rollback rs then None else Some (Outcome.MustRollBack since)
refusal_in State.Unknown rs = Some (Outcome.TxnOver Says.Unknown)
refusal_in (State.Over status) rs = Some (Outcome.TxnOver status)

-- a batch with a stamp of its own is of no transaction
abbrev pub refusal_by : Option Stamp → List Request → Option Txn → Option Outcome
refusal_by (Some s) rs c = None
refusal_by None rs None = None
refusal_by None rs (Some c) = refusal_in c.state rs

-- the requests got their numbers
abbrev pub with_numbers : List Request → Txn → Txn
with_numbers rs c = record c { last = record { 0 = c.last.0 + count_numbered rs } }

-- the batch of this number failed
abbrev pub failed_since : ℕ → TxnState → TxnState
failed_since n State.Live = State.Failed n
failed_since n (State.Failed since) = State.Failed since
failed_since n State.Unknown = State.Unknown
failed_since n (State.Over status) = State.Over status

-- an end leaves it over
abbrev pub over_by : Option TxnStatus → TxnState → TxnState
over_by None s = s
over_by (Some status) s = State.Over status

-- memory was wanting: nobody knows what became of an end that was sent
abbrev pub stopped_by : ℕ → Option TxnStatus → TxnState → TxnState
stopped_by n None s = failed_since n s
stopped_by n (Some status) s = State.Unknown

-- the batch of this number was answered so, and an end in it left the transaction so
abbrev pub noted_state : ℕ → Outcome → Option TxnStatus → TxnState → TxnState
noted_state n (Outcome.Ok replies) end s = over_by end s
noted_state n (Outcome.Illegal i) end s = s
noted_state n (Outcome.MustRollBack since) end s = s
noted_state n (Outcome.TxnOver status) end s = s
noted_state n (Outcome.OpRequiresTxn desc) end s = failed_since n s
noted_state n (Outcome.NotOnePhase desc) end s = failed_since n s
noted_state n (Outcome.ConditionFailed i v) end s = failed_since n s
noted_state n (Outcome.WriteTooOld i k t) end s = failed_since n s
noted_state n (Outcome.NotInteger i) end s = failed_since n s
noted_state n (Outcome.Overflow i) end s = failed_since n s
noted_state n Outcome.TxnAborted end s = failed_since n s
noted_state n (Outcome.Ambiguous lost) end s = State.Unknown
noted_state n (Outcome.RetryExhausted refused lost) end s = failed_since n s
noted_state n Outcome.OutOfMemory end s = stopped_by n end s

-- every batch of the transaction counts, refused ones too
abbrev pub noted : Outcome → Option TxnStatus → Txn → Txn
noted o end c = record c { state = noted_state (one_batch_more c.batches) o end c.state; batches = one_batch_more c.batches }

-- a batch that is answered without being sent uses no numbers
abbrev pub numbered_by : Batch → Outcome → Txn → Txn
numbered_by b o c = if uses_numbers o then with_numbers b.requests c else c

-- a batch of the transaction after its answer
abbrev pub answered : Batch → Outcome → Option TxnStatus → Txn → Txn
answered b o end c = noted o end (numbered_by b o c)

-- whatever is open, after the batch was answered so
abbrev pub after_batch : Batch → Outcome → Option TxnStatus → Option Txn → Option Txn
after_batch b o end c = if_of_txn b.at (answered b o end) c

-- a transaction at the stamp 7, and a batch of a deletion and a get

abbrev third : Txn
third = begun (record { 0 = 3 }) (record { 0 = 7 })

abbrev a_get : Request
a_get = Get (record { key = 97 ∷ [] })

abbrev two : Batch
two = record { at = None; consistent = true; limit = None; requests = Delete (record { key = 97 ∷ [] }) ∷ a_get ∷ [] }

abbrev an_end : Bool → Request
an_end c = EndTxn (record { key = 97 ∷ []; commit = c; one_phase = false; parallel = false; in_flight = [] })

-- the deletion takes a number, and the batch counts
one_number_and_one_batch : answered two (Outcome.Ok []) None third ≡ record third { last = record { 0 = 1 }; batches = 1 }
one_number_and_one_batch = refl

-- a batch that breaks a rule counts, and takes no number
no_number : answered two (Outcome.TxnOver Says.Aborted) None third ≡ record third { batches = 1 }
no_number = refl

-- the second batch fails, then the third too: it failed since the second
failed_since_the_second : (answered two (Outcome.NotInteger 0) None (answered two Outcome.TxnAborted None (record third { batches = 1 }))).state ≡ State.Failed 2
failed_since_the_second = refl

not_since_the_third : (answered two (Outcome.NotInteger 0) None (answered two Outcome.TxnAborted None (record third { batches = 1 }))).state ≡ State.Failed 3 → ⊥
not_since_the_third h = cc

-- a batch with a stamp leaves it as it is
not_of_the_transaction : after_batch (record two { at = Some (record { 0 = 5 }) }) (Outcome.NotInteger 0) None (Some third) ≡ Some third
not_of_the_transaction = refl

-- after a failure a rollback is sent, and no commit
a_rollback_is_sent : refusal_in (State.Failed 2) (an_end false ∷ []) ≡ None
a_rollback_is_sent = refl

not_a_commit : refusal_in (State.Failed 2) (an_end true ∷ []) ≡ Some (Outcome.MustRollBack 2)
not_a_commit = refl

not_with_a_get : refusal_in (State.Failed 2) (a_get ∷ an_end false ∷ []) ≡ Some (Outcome.MustRollBack 2)
not_with_a_get = refl

-- a lost end leaves it in doubt, and then nothing is sent
nothing_in_doubt : refusal_in (noted (Outcome.Ambiguous 1) None third).state (an_end false ∷ []) ≡ Some (Outcome.TxnOver Says.Unknown)
nothing_in_doubt = refl

in_doubt_without_memory : (noted Outcome.OutOfMemory (Some Says.Unknown) third).state ≡ State.Unknown
in_doubt_without_memory = refl

failed_without_memory : (noted Outcome.OutOfMemory None third).state ≡ State.Failed 1
failed_without_memory = refl

-- an end that committed leaves it over
over_when_committed : (noted (Outcome.Ok []) (Some Says.Committed) third).state ≡ State.Over Says.Committed
over_when_committed = refl
