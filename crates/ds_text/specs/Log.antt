-- The text of a log.
use Rattle.std.specs.Prelude.{ℕ, List, [], ◌∷◌, ◌++◌, map, Bool, true}
use Rattle.std.specs.List.{flat_map, list_all, enumerate_from}
use Rattle.serde_json.specs.Data.{Data}
use Rattle.serde_json.specs.Written.{compact_text}
use Rattle.ds_rule.specs.declared.journal.JournalStep.{JournalStep}
use Rattle.ds_rule.specs.declared.journal.Entry.{Entry}
use Rattle.ds_rule.specs.declared.journal.Entry.TheVariants as entries
use Rattle.ds_text.specs.Lines.{step_data, answer_line, close_line, restart_line, has_text}

-- the steps of a batch, numbered from 1
abbrev pub steps_objects : ℕ → List JournalStep → List Data
steps_objects line steps = map (λ p. step_data line p.0 p.1) (enumerate_from 1 steps)

-- the objects of an entry: a batch's steps, and then its answer
abbrev pub objects_of : Entry → List Data
objects_of (entries.Batch line steps outcome) = steps_objects line steps ++ answer_line line outcome ∷ []
objects_of (entries.Closed line status) = close_line line status ∷ []
objects_of (entries.Restarted line epoch) = restart_line line epoch ∷ []

abbrev pub entry_has_text : Entry → Bool
entry_has_text (entries.Batch line steps outcome) = has_text outcome
entry_has_text (entries.Closed line status) = true
entry_has_text (entries.Restarted line epoch) = true

-- no batch of the log was out of memory
abbrev pub has_texts : List Entry → Bool
has_texts log = list_all entry_has_text log

-- an object without spaces, and a newline
abbrev pub line_text : Data → List ℕ
line_text d = compact_text d ++ 10 ∷ []

-- a line for each object
abbrev pub lines_text : List Data → List ℕ
lines_text ds = flat_map line_text ds

abbrev pub log_objects : List Entry → List Data
log_objects log = flat_map objects_of log

unfoldable pub text_of : List Entry → List ℕ
text_of log = lines_text (log_objects log)
