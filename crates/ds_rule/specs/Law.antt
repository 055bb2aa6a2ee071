-- What a sender's steps mean: for every store that the wire's world stands for, the plain answer.
use Rattle.std.specs.Prelude.{◌≡◌, ℕ, ◌<◌, ◌++◌, ◌⊎◌, true, List, length, Some, None}
use Rattle.ds_base.specs.Order.{key_lt}
use Rattle.ds_base.specs.declared.value.Stamp.{Stamp}
use Rattle.ds_kind.specs.Asks.{is_get_or_scan}
use Rattle.ds_kind.specs.Request.{span_of}
use Rattle.ds_kind.specs.declared.batch.Batch.{Batch}
use Rattle.ds_kind.specs.declared.batch.Item.{Item}
use Rattle.ds_kind.specs.declared.reply.Failure.TheVariants as Failure
use Rattle.ds_cell.specs.Store.{Store}
use Rattle.ds_rule.specs.declared.answer.Outcome.{Outcome}
use Rattle.ds_rule.specs.Asking.{Asking, Fails, ask_all}
use Rattle.ds_rule.specs.Clauses.{Stands, IsLost}
use Rattle.ds_rule.specs.Cause.{CauseOf, WholeCauseOf}
use Rattle.ds_rule.specs.Journal.{Happening, Moved, Did as Stepped, Accepted}
use Rattle.ds_rule.specs.Path.{Path}
use Rattle.ds_rule.specs.Pieces.{Each}
use Rattle.ds_rule.specs.Plain.{Answered}
use Rattle.ds_rule.specs.StandsFor.{StandsFor, Ready, after_made}

-- what a call did to answer the batch so, request by request: its steps are of the batch, and show why
pub record Did (budget : ℕ) (q : Asking) (a b : Stands) (o : Outcome) : Type 0 where
  pub got : List Accepted
  pub path : Path q a b got
  pub cause : CauseOf budget q path.added got o

-- what a call did to answer the batch so, in one piece
pub record DidWhole (budget : ℕ) (q : Asking) (a b : Stands) (o : Outcome) : Type 0 where
  pub got : List Accepted
  pub path : Path q a b got
  pub cause : WholeCauseOf budget q path.added o

-- the store does what the answer says, then what happened on the way happens to it, and the world stands for it
pub record LeadsTo (a b : Stands) (p : Store) (batch : Batch) (o : Outcome) : Type 0 where
  pub added : List Happening
  pub grown : b.past ≡ a.past ++ added
  pub next : Store
  pub answered : Answered p batch o next
  pub stands : StandsFor b.world (after_made added next)

-- for each store that the world stood for before
abbrev pub IsPlainFor : Stands → Stands → Batch → Asking → Outcome → Type 0
IsPlainFor a b batch q o = (p : Store) → Ready a p batch q → LeadsTo a b p batch o

-- a failure is the plain store's own
abbrev pub PlainCause : Store → Asking → Outcome → Type 0
PlainCause p q (Outcome.ConditionFailed i v) = ask_all q.head q.items p.cells ≡ Fails (Failure.Condition i v)
PlainCause p q (Outcome.WriteTooOld i k s) = ask_all q.head q.items p.cells ≡ Fails (Failure.TooOld i k s)
PlainCause p q (Outcome.NotInteger i) = ask_all q.head q.items p.cells ≡ Fails (Failure.NotInteger i)
PlainCause p q (Outcome.Overflow i) = ask_all q.head q.items p.cells ≡ Fails (Failure.Overflow i)
PlainCause p q o = Unit {0}

-- a get or a scan of some keys
pub record IsProperRead (i : Item) : Type 0 where
  pub read : is_get_or_scan i.request ≡ true
  pub some : key_lt (span_of i.request).start (span_of i.request).end ≡ true

-- a batch that only reads, without a limit
pub record IsReading (batch : Batch) (q : Asking) : Type 0 where
  pub unlimited : batch.limit ≡ None
  pub some : 0 < length q.items
  pub reads : Each IsProperRead q.items

-- an answer that isn't given for want of memory
abbrev pub IsGiven : Outcome → Type 0
IsGiven Outcome.OutOfMemory = ⊥
IsGiven o = Unit {0}

-- the law of reads: what a call did, request by request, means the plain answer
abbrev pub ReadLaw : Type 0
ReadLaw = (budget : ℕ) (batch : Batch) (q : Asking) (a b : Stands) (o : Outcome) → IsReading batch q → IsGiven o → Did budget q a b o → IsPlainFor a b batch q o

-- a batch without a transaction and without a limit
pub record IsSingle (batch : Batch) : Type 0 where
  pub stamp : Stamp
  pub at : batch.at ≡ Some stamp
  pub unlimited : batch.limit ≡ None

-- nothing was lost, and nothing happened beside the steps
abbrev pub IsQuiet : Happening → Type 0
IsQuiet (Moved e) = ⊥
IsQuiet (Stepped s) = IsLost s → ⊥

-- no transaction is open, or the batch only reads
abbrev pub MayAct : Store → Asking → Type 0
MayAct p q = (p.txn ≡ None) ⊎ Each IsProperRead q.items

-- the law of a batch in one piece, where the call met nothing but its own steps: what it did means the plain answer, and
-- a failure is the plain store's
abbrev pub WholeLaw : Type 0
WholeLaw =
    (budget : ℕ) (batch : Batch) (q : Asking) (a b : Stands) (o : Outcome) (p : Store)
    → IsSingle batch → IsGiven o → (did : DidWhole budget q a b o) → Each IsQuiet did.path.added → MayAct p q → Ready a p batch q
    → LeadsTo a b p batch o × PlainCause p q o
