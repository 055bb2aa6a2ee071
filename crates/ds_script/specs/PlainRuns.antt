-- The plain run: one plain store asked the script's batches in order.
use Rattle.std.specs.Prelude.{◌≡◌, ℕ, ◌+◌, List, [], ◌∷◌, map, Option, Some, None}
use Rattle.ds_base.specs.declared.value.Stamp.{Stamp}
use Rattle.ds_kind.specs.declared.batch.Batch.{Batch}
use Rattle.ds_kind.specs.declared.reply.TxnStatus.{TxnStatus}
use Rattle.ds_kind.specs.declared.reply.TxnStatus.TheVariants as Says
use Rattle.ds_cell.specs.Change.{settled}
use Rattle.ds_cell.specs.Store.{Asker, Store, StoreTxn, Mode, Live, Fate, Pending, Committed, Aborted, empty_store}
use Rattle.ds_rule.specs.declared.answer.Outcome.{Outcome}
use Rattle.ds_rule.specs.declared.event.Block.{Block}
use Rattle.ds_rule.specs.declared.event.Event.{Event}
use Rattle.ds_rule.specs.declared.journal.Entry.{Entry}
use Rattle.ds_rule.specs.declared.journal.Entry.TheVariants as entries
use Rattle.ds_rule.specs.Close.{settle_cells}
use Rattle.ds_rule.specs.Plain.{Answered, after_event, after_events}
use Rattle.ds_script.specs.declared.line.Line.{Line}
use Rattle.ds_script.specs.declared.line.Line.TheVariants as lines
use Rattle.ds_script.specs.declared.line.Numbered.{Numbered}
use Rattle.ds_script.specs.Runs.{Plays, event_of}

-- a transaction that has asked nothing yet
abbrev pub new_txn : ℕ → Stamp → StoreTxn
new_txn n s = record { asker = record { number = n; stamp = s.0; epoch = 0; last = 0 }; fate = Pending; mode = Live; batches = 0 }

abbrev pub with_txn : Stamp → Store → Store
with_txn s p = record p { txn = Some (new_txn (p.begun + 1) s); begun = p.begun + 1 }

-- how a transaction ends: committed where it is, else aborted
abbrev pub status_of : Fate → TxnStatus
status_of Pending = Says.Aborted
status_of Committed = Says.Committed
status_of Aborted = Says.Aborted

abbrev pub commit_stamp : Fate → ℕ → Option Stamp
commit_stamp Pending s = None
commit_stamp Committed s = Some (record { 0 = s })
commit_stamp Aborted s = None

-- its last write of each key becomes a version where it is committed, and it is gone
abbrev pub without_txn : StoreTxn → Store → Store
without_txn t p = record p { cells = settle_cells t.asker.number (commit_stamp t.fate t.asker.stamp) p.cells; txn = None }

abbrev pub Closes : Option StoreTxn → TxnStatus → Store → Store → Type 0
Closes None status p after = ⊥
Closes (Some t) status p after = (status ≡ status_of t.fate) × (after ≡ without_txn t p)

-- the answer, and then what happened beside the batch
abbrev pub BatchNext : Store → Batch → Block → Outcome → Store → Type 0
BatchNext p b block o after = (next : Store) × Answered p b o next × (after ≡ after_events block.events next)

abbrev pub event_store : Option Event → Store → Store
event_store None p = p
event_store (Some e) p = after_event e p

-- what a line and its entry make of the store; a restart isn't built yet
abbrev pub PlainTurn : Store → Line → Option Entry → Store → Type 0
PlainTurn p (lines.Cluster c) e after = after ≡ p
PlainTurn p (lines.Begin s k) e after = after ≡ with_txn s p
PlainTurn p lines.Close (Some (entries.Closed n status)) after = Closes p.txn status p after
PlainTurn p lines.Close e after = ⊥
PlainTurn p (lines.Batch b block) (Some (entries.Batch n steps o)) after = BatchNext p b block o after
PlainTurn p (lines.Batch b block) e after = ⊥
PlainTurn p lines.Restart e after = ⊥
PlainTurn p l e after = after ≡ event_store (event_of l) p

-- the log's answers are those of a plain store that begins empty
abbrev pub PlainRun : List Numbered → List Entry → Type 0
PlainRun script log = (v : Store) × Plays PlainTurn empty_store script log v
