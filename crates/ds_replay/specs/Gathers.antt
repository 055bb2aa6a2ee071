-- When the Ok answers of a log are gathered.
use Rattle.std.specs.Prelude.{◌≡◌, List, Option, Some}
use Rattle.ds_kind.specs.declared.batch.Batch.{Batch}
use Rattle.ds_rule.specs.declared.answer.Outcome.{Outcome}
use Rattle.ds_rule.specs.declared.journal.Entry.{Entry}
use Rattle.ds_rule.specs.declared.journal.Entry.TheVariants as entries
use Rattle.ds_rule.specs.declared.journal.JournalStep.{JournalStep}
use Rattle.ds_rule.specs.Asking.{Asking, asking}
use Rattle.ds_script.specs.declared.line.Line.{Line}
use Rattle.ds_script.specs.declared.line.Line.TheVariants as lines
use Rattle.ds_script.specs.declared.line.Numbered.{Numbered}
use Rattle.ds_script.specs.Journals.{Asks, asks_after, no_asks}
use Rattle.ds_script.specs.Runs.{Plays}
use Rattle.ds_replay.specs.Because.{OkGathers}

-- for the batch as it was asked
abbrev pub BatchGathers : Asks → Batch → List JournalStep → Outcome → Type 0
BatchGathers a b steps o = (q : Asking) × (asking a.asker b ≡ Some q) × OkGathers q steps o

abbrev pub EntryGathers : Asks → Line → Option Entry → Type 0
EntryGathers a (lines.Batch b block) (Some (entries.Batch n steps o)) = BatchGathers a b steps o
EntryGathers a l e = Unit {0}

abbrev pub GatherTurn : Asks → Line → Option Entry → Asks → Type 0
GatherTurn a l e v = EntryGathers a l e × (v ≡ asks_after l e a)

-- each Ok answer is gathered
abbrev pub AllGathered : List Numbered → List Entry → Type 0
AllGathered script log = (v : Asks) × Plays GatherTurn no_asks script log v
