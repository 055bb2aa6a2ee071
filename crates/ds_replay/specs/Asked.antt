-- What one batch of a replay makes.
use Rattle.std.specs.Prelude.{◌≡◌, ℕ, List, [], ◌∷◌, ◌++◌, Option, Some, None}
use Rattle.ds_kind.specs.declared.batch.Batch.{Batch}
use Rattle.ds_kind.specs.declared.illegal.Illegal.{Illegal}
use Rattle.ds_legal.specs.Rules.{first_illegal}
use Rattle.ds_coord.specs.declared.txn.Txn.{Txn}
use Rattle.ds_coord.specs.Client.{asker_in, noted, refusal_by}
use Rattle.ds_rule.specs.declared.answer.Outcome.{Outcome}
use Rattle.ds_rule.specs.declared.event.Block.{Block}
use Rattle.ds_rule.specs.declared.journal.Entry.{Entry}
use Rattle.ds_rule.specs.declared.journal.Entry.TheVariants as entries
use Rattle.ds_rule.specs.declared.journal.JournalStep.{JournalStep}
use Rattle.ds_rule.specs.Asking.{Asking, asking}
use Rattle.ds_rule.specs.Clauses.{Stands}
use Rattle.ds_rule.specs.Law.{IsGiven}
use Rattle.ds_rule.specs.Plain.{if_of_txn}
use Rattle.ds_sim.specs.State.{Ended}
use Rattle.ds_replay.specs.Forming.{floor_at, stamp_in}
use Rattle.ds_replay.specs.Sends.{DoneBy}

-- the wire as a block begins: its events and its picks are to come
abbrev pub begun_block : Stands → Option Txn → Batch → Block → Stands
begun_block a t b block = record a { past = []; floor = floor_at (stamp_in (asker_in t)) b.at; ahead = block.picks; block = block.events }

-- what a batch is answered that its transaction refuses so: the first rule that it breaks before that
abbrev pub refused_as : Option Illegal → Outcome → Outcome
refused_as (Some i) o = Outcome.Illegal i
refused_as None o = o

-- for whichever asking the batch is
abbrev pub Done : Option Txn → Batch → ℕ → Stands → Stands → Outcome → Type 0
Done t b budget a m o = (q : Asking) → asking (asker_in t) b ≡ Some q → DoneBy (first_illegal b) (refusal_by b.at b.requests t) budget q a m o

-- the batch was answered in a block of its own, and its steps and its outcome were noted, also of its transaction
pub record AskedBy (a c : Stands) (budget : ℕ) (t u : Option Txn) (b : Batch) (block : Block) (n : ℕ) (log after : List Entry) : Type 0 where
  pub outcome : Outcome
  pub steps : List JournalStep
  pub mid : Stands
  pub given : IsGiven outcome
  pub done : Done t b budget (begun_block a t b block) mid outcome
  pub still : mid.lost ≡ 0
  pub ended : Ended steps mid c
  pub noted_so : u ≡ if_of_txn b.at (noted outcome None) t
  pub logged : after ≡ log ++ entries.Batch n steps outcome ∷ []
