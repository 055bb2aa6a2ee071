-- Why each answer of a log was given.
use Rattle.std.specs.Prelude.{◌≡◌, ℕ, true, List, [], Option, Some, None, refl}
use Rattle.ds_kind.specs.declared.batch.Batch.{Batch}
use Rattle.ds_kind.specs.declared.illegal.Illegal.TheVariants as Illegal
use Rattle.ds_legal.specs.Rules.{first_illegal}
use Rattle.ds_cell.specs.Store.{Store, empty_store}
use Rattle.ds_rule.specs.declared.answer.Outcome.{Outcome}
use Rattle.ds_rule.specs.declared.event.Block.{Block}
use Rattle.ds_rule.specs.declared.journal.Entry.{Entry}
use Rattle.ds_rule.specs.declared.journal.Entry.TheVariants as entries
use Rattle.ds_rule.specs.declared.journal.JournalStep.{JournalStep}
use Rattle.ds_rule.specs.Admitting.{refused_by}
use Rattle.ds_rule.specs.Asking.{Asking, asking}
use Rattle.ds_script.specs.declared.line.Line.{Line}
use Rattle.ds_script.specs.declared.line.Line.TheVariants as lines
use Rattle.ds_script.specs.declared.line.Numbered.{Numbered}
use Rattle.ds_script.specs.Journals.{Asks, asks_after, no_asks}
use Rattle.ds_script.specs.PlainRuns.{PlainTurn}
use Rattle.ds_script.specs.Runs.{Plays}
use Rattle.ds_replay.specs.Because.{WhyBatch}

-- the batch's answer, for the store as it was
pub record BatchCause (budget : ℕ) (a : Asks) (p : Store) (b : Batch) (block : Block) (steps : List JournalStep) (o : Outcome) : Type 0 where
  pub asked : Asking
  pub asks : asking a.asker b ≡ Some asked
  pub why : WhyBatch (first_illegal b) (refused_by b.at b.requests p.txn) budget p asked block.events steps o

abbrev pub EntryCause : ℕ → Asks → Store → Line → Option Entry → Type 0
EntryCause budget a p (lines.Batch b block) (Some (entries.Batch n steps o)) = BatchCause budget a p b block steps o
EntryCause budget a p l e = Unit {0}

-- who asks, and the plain store
pub record Told : Type 0 where
  pub asks : Asks
  pub store : Store

abbrev pub first_told : Told
first_told = record { asks = no_asks; store = empty_store }

abbrev pub CauseTurn : ℕ → Told → Line → Option Entry → Told → Type 0
CauseTurn budget s l e v = EntryCause budget s.asks s.store l e × (v.asks ≡ asks_after l e s.asks) × PlainTurn s.store l e v.store

-- each answer has its cause, with this budget of refusals and losses
abbrev pub AllCaused : ℕ → List Numbered → List Entry → Type 0
AllCaused budget script log = (v : Told) × Plays (CauseTurn budget) first_told script log v

no_requests : Batch
no_requests = record { at = Some (record { 0 = 5 }); consistent = true; limit = None; requests = [] }

abbrev none_asked : Asking
none_asked = record { head = record { at = record { 0 = 5 }; txn = None; left = None; epoch = 0 }; consistent = true; items = [] }

a_broken_rule_is_named : WhyBatch (Some Illegal.Empty) None 1 empty_store none_asked [] [] (Outcome.Illegal Illegal.Empty)
a_broken_rule_is_named = (refl, refl)

no_other_rule_is_named : WhyBatch (Some Illegal.Empty) None 1 empty_store none_asked [] [] (Outcome.Illegal Illegal.TooMany) → ⊥
no_other_rule_is_named h = let named : Outcome.Illegal Illegal.TooMany ≡ Outcome.Illegal Illegal.Empty = h.0 in cc
