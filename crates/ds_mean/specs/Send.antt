-- What one call of a sender did, and what it means for each plain store that the world meant.
use Rattle.std.specs.Prelude.{◌≡◌, ℕ, ◌<◌, ◌⊎◌, true, false, List, [], ◌++◌, length, Option, Some, None}
use Rattle.std.specs.List.{list_all, list_any}
use Rattle.ds_kind.specs.Asks.{has_proper_span, is_end, takes_number}
use Rattle.ds_kind.specs.Parts.{requests_of}
use Rattle.ds_kind.specs.declared.batch.Batch.{Batch}
use Rattle.ds_kind.specs.declared.illegal.Illegal.{Illegal}
use Rattle.ds_kind.specs.declared.reply.Failure.{Failure}
use Rattle.ds_kind.specs.declared.reply.Reply.{Reply}
use Rattle.ds_cell.specs.declared.verdict.ActFault.{ActFault}
use Rattle.ds_cell.specs.Store.{Store, StoreTxn, Aborted}
use Rattle.ds_rule.specs.declared.answer.Outcome.{Outcome}
use Rattle.ds_rule.specs.declared.journal.JournalStep.TheVariants.{Look, Send}
use Rattle.ds_rule.specs.Admitting.{refused_by}
use Rattle.ds_rule.specs.Asking.{Asking, failure_of}
use Rattle.ds_rule.specs.Cause.{LastFails, UsedUp}
use Rattle.ds_rule.specs.Clauses.{Stands}
use Rattle.ds_rule.specs.Gathered.{Gathered}
use Rattle.ds_rule.specs.Journal.{Happening, Moved, Did, Runs, accepted}
use Rattle.ds_rule.specs.Law.{IsGiven}
use Rattle.ds_rule.specs.Path.{IsHigh}
use Rattle.ds_rule.specs.Pieces.{Each}
use Rattle.ds_rule.specs.Plain.{Answered}
use Rattle.ds_rule.specs.Sending.{AllOf}
use Rattle.ds_rule.specs.Serve.{resolves}
use Rattle.ds_rule.specs.StandsFor.{after_made}
use Rattle.ds_rule.specs.Turn.{FailsAt}
use Rattle.ds_turn.specs.Alone.{IsTooOld}
use Rattle.ds_mean.specs.InTurn.{AllInTurn, AreAll, IsLeft, items_of}
use Rattle.ds_mean.specs.Means.{Means}
use Rattle.ds_mean.specs.Ready.{ReadyFor}
use Rattle.ds_mean.specs.Told.{IsTold}

-- ---- what it did

-- a batch without a transaction that writes goes in one piece, which settles what it wrote
abbrev pub WritesAlone : Asking → Type 0
WritesAlone q = (q.head.txn ≡ None) × (list_any takes_number (requests_of q.items) ≡ true)

abbrev pub IsOfAll : Asking → Happening → Type 0
IsOfAll q (Moved e) = Unit {0}
IsOfAll q (Did (Look k d l)) = Unit {0}
IsOfAll q (Did (Send n p a)) = p.items ≡ q.items

-- what is accepted covers the batch, and the replies are made of it
pub record CameWhole (q : Asking) (hs : List Happening) (replies : List Reply) : Type 0 where
  pub all : AreAll q.items (items_of (accepted hs))
  pub gathered : Gathered (accepted hs) q.items replies

-- the last piece failed so, and is still to come
pub record CameToFail (q : Asking) (hs : List Happening) (f : Failure) : Type 0 where
  pub left : IsLeft q.items (items_of (accepted hs))
  pub last : LastFails f hs

-- what the steps show of the answer, as far as the plain store asks. Of the answers without steps none is one
abbrev pub ShowsWhy : ℕ → Asking → List Happening → Outcome → Type 0
ShowsWhy budget q hs (Outcome.Ok replies) = CameWhole q hs replies
ShowsWhy budget q hs (Outcome.Illegal i) = ⊥
ShowsWhy budget q hs (Outcome.MustRollBack since) = ⊥
ShowsWhy budget q hs (Outcome.TxnOver status) = ⊥
ShowsWhy budget q hs (Outcome.OpRequiresTxn desc) = IsLeft q.items (items_of (accepted hs))
ShowsWhy budget q hs (Outcome.NotOnePhase desc) = IsLeft q.items (items_of (accepted hs))
ShowsWhy budget q hs (Outcome.ConditionFailed i v) = CameToFail q hs (Failure.Condition i v)
ShowsWhy budget q hs (Outcome.WriteTooOld i k s) = CameToFail q hs (Failure.TooOld i k s)
ShowsWhy budget q hs (Outcome.NotInteger i) = CameToFail q hs (Failure.NotInteger i)
ShowsWhy budget q hs (Outcome.Overflow i) = CameToFail q hs (Failure.Overflow i)
ShowsWhy budget q hs Outcome.TxnAborted = CameToFail q hs Failure.Aborted
ShowsWhy budget q hs (Outcome.Ambiguous lost) = CameToFail q hs Failure.Committed ⊎ (Each IsTold hs → ⊥)
ShowsWhy budget q hs (Outcome.RetryExhausted refused lost) = IsLeft q.items (items_of (accepted hs)) × UsedUp budget refused lost hs
ShowsWhy budget q hs Outcome.OutOfMemory = Unit {0}

-- from one state of the wire to a later one: each step is of the batch, and pieces come in turn at each of their keys
pub record DidSend (budget : ℕ) (q : Asking) (a b : Stands) (o : Outcome) : Type 0 where
  pub added : List Happening
  pub grown : b.past ≡ a.past ++ added
  pub runs : Runs a.world added b.world
  pub floor : b.floor ≡ a.floor
  pub block : b.block ≡ a.block
  pub high : Each (IsHigh a.floor) added
  pub of : AllOf q [] added
  pub turns : AllInTurn q.items [] added
  pub whole : WritesAlone q → Each (IsOfAll q) added
  pub shows : ShowsWhy budget q added o

-- ---- what it means

-- the store does what the answer says, and then what happened on the way; the world means what comes of that
pub record LeadsOn (a b : Stands) (p : Store) (batch : Batch) (o : Outcome) : Type 0 where
  pub added : List Happening
  pub grown : b.past ≡ a.past ++ added
  pub next : Store
  pub answered : Answered p batch o next
  pub means : Means b.world (after_made added next)

-- the batch's turn at a key fails so; as too old, where what other clients wrote so far is made first
pub record TurnFailed (q : Asking) (p : Store) (hs : List Happening) (failure : Failure) : Type 0 where
  pub key : List ℕ
  pub position : ℕ
  pub fault : ActFault
  pub says : failure ≡ failure_of position key fault
  pub young : (IsTooOld fault → ⊥) → FailsAt q key p.cells position fault
  pub old : IsTooOld fault → FailsAt q key (after_made hs p).cells position fault

abbrev pub IsAborted : Option StoreTxn → Type 0
IsAborted None = ⊥
IsAborted (Some t) = t.fate ≡ Aborted

-- a failure is one of the store's turn, and an abort is one that the store knows; in doubt is nothing without a loss
abbrev pub IsTurnCause : Store → Asking → List Happening → Outcome → Type 0
IsTurnCause p q hs (Outcome.ConditionFailed i v) = TurnFailed q p hs (Failure.Condition i v)
IsTurnCause p q hs (Outcome.WriteTooOld i k s) = TurnFailed q p hs (Failure.TooOld i k s)
IsTurnCause p q hs (Outcome.NotInteger i) = TurnFailed q p hs (Failure.NotInteger i)
IsTurnCause p q hs (Outcome.Overflow i) = TurnFailed q p hs (Failure.Overflow i)
IsTurnCause p q hs Outcome.TxnAborted = IsAborted (after_made hs p).txn
IsTurnCause p q hs (Outcome.Ambiguous lost) = ⊥
IsTurnCause p q hs o = Unit {0}

-- ---- a batch that isn't sent

-- it breaks a rule, or the store's transaction refuses it
abbrev pub IsUnsent : Store → Batch → Outcome → Type 0
IsUnsent p b o = ((i : Illegal) × (o ≡ Outcome.Illegal i)) ⊎ (refused_by b.at b.requests p.txn ≡ Some o)

-- for every store that the world means: it is counted, and the world means the store as before
abbrev pub UnsentLaw : Type 0
UnsentLaw = (a : Stands) (p : Store) (batch : Batch) (o : Outcome) → Means a.world p → IsUnsent p batch o → LeadsOn a a p batch o

-- ---- the law

-- a batch has requests, each of some keys
pub record IsProperBatch (b : Batch) : Type 0 where
  pub some : 0 < length b.requests
  pub proper : list_all has_proper_span b.requests ≡ true

-- what the law is proved for so far: batches without a limit and without an end of the transaction; where one is open, none
-- that resolves intents
pub record HasLaw (p : Store) (batch : Batch) (q : Asking) : Type 0 where
  pub unlimited : batch.limit ≡ None
  pub endless : list_any is_end batch.requests ≡ false
  pub resolved : (p.txn ≡ None) ⊎ Each (λ i. resolves i.request ≡ None) q.items

-- for every store that the world means: what the call did without losing a send means the plain answer, whatever happened
-- beside it, and a failure is the plain store's
abbrev pub SendLaw : Type 0
SendLaw =
    (budget : ℕ) (batch : Batch) (q : Asking) (a b : Stands) (o : Outcome) (p : Store) → IsProperBatch batch → HasLaw p batch q → IsGiven o
    → (did : DidSend budget q a b o) → Each IsTold did.added → ReadyFor a p batch q → LeadsOn a b p batch o × IsTurnCause p q did.added o
