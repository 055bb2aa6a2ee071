-- What the replay of one line makes.
use Rattle.std.specs.Prelude.{◌≡◌, ℕ, List, [], ◌∷◌, ◌++◌, Option, Some, None}
use Rattle.ds_cell.specs.Store.{Store}
use Rattle.ds_coord.specs.declared.txn.Txn.{Txn}
use Rattle.ds_rule.specs.declared.event.Event.{Event}
use Rattle.ds_rule.specs.declared.journal.Entry.{Entry}
use Rattle.ds_rule.specs.Moves.{moved}
use Rattle.ds_script.specs.declared.line.Line.{Line}
use Rattle.ds_script.specs.declared.line.Numbered.{Numbered}
use Rattle.ds_script.specs.Runs.{has_entry, TakesEntry}
use Rattle.ds_script.specs.Journals.{Played, JournalTurn}
use Rattle.ds_script.specs.PlainRuns.{PlainTurn}
use Rattle.ds_sim.specs.declared.sim.Sim.{Sim}
use Rattle.ds_sim.specs.State.{state_of}
use Rattle.ds_replay.specs.declared.state.State.{State}
use Rattle.ds_replay.specs.Causes.{EntryCause}
use Rattle.ds_replay.specs.Gathers.{GatherTurn}
use Rattle.ds_replay.specs.Stages.{StandsAt}

abbrev pub listed : Option Entry → List Entry
listed None = []
listed (Some e) = e ∷ []

-- a line with its entry leads from where a replay stands to where it stands then: the journal goes on as the world
-- does, an Ok answer is gathered, the plain store goes on, and an answer has its cause
pub record LineTaken (budget : ℕ) (old new : State) (l : Line) (e : Option Entry) (s : Played) (p : Store) : Type 0 where
  pub played : Played
  pub next : Store
  pub journal : JournalTurn s l e played
  pub gathers : GatherTurn s.asks l e played.asks
  pub plain : PlainTurn p l e next
  pub stands : StandsAt new played next
  pub cause : EntryCause budget s.asks p l e

-- so from wherever it stood
pub record Taken (budget : ℕ) (old new : State) (l : Numbered) (log after : List Entry) : Type 0 where
  pub entry : Option Entry
  pub takes : TakesEntry (has_entry l.line) l.number (listed entry) entry []
  pub logged : after ≡ log ++ listed entry
  pub line : (s : Played) (p : Store) → StandsAt old s p → LineTaken budget old new l.line entry s p

-- the event was made of the cluster, and nothing else was changed
abbrev pub HasMade : Sim → Option Txn → ℕ → Event → State → Type 0
HasMade sim txn begun e State.Start = ⊥
HasMade sim txn begun e (State.Running new still same) =
    (state_of new ≡ record (state_of sim) { world = moved (state_of sim).world e }) × (still ≡ txn) × (same ≡ begun)
