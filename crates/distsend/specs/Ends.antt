-- How a run ends, for each status.
use Rattle.std.specs.Prelude.{◌≡◌, ◌≢◌, ◌≤◌, ◌+◌, ◌⊎◌, ℕ, Bool, true, false, List, [], ◌∷◌, codes, length, take, Option, Some, None, Ok, Err, refl}
use Rattle.std.specs.Io.KnownBytes.{Consumes, Appends, IsAtEnd}
use Rattle.ds_base.specs.Counts.{Rose}
use Rattle.ds_rule.specs.declared.journal.Entry.{Entry}
use Rattle.ds_script.specs.declared.line.Numbered.{Numbered}
use Rattle.ds_script.specs.Journals.{LegalJournal}
use Rattle.ds_script.specs.PlainRuns.{PlainRun}
use Rattle.ds_script.specs.Script.{Fault, most_bytes, script_of}
use Rattle.ds_text.specs.Log.{text_of}
use Rattle.ds_replay.specs.Built.{first_unbuilt}
use Rattle.ds_replay.specs.Causes.{AllCaused}
use Rattle.ds_replay.specs.Gathers.{AllGathered}
use Rattle.distsend.specs.Texts.{fault_text, unbuilt, usage_text}
use Rattle.distsend.specs.declared.status.Status.{Status}
use Rattle.distsend.specs.declared.status.Status.TheVariants.{Done, BadScript, Usage, ReadFault, WriteFault, Memory}

-- a source before and after a call: what it has left, where that is told, and its count of faults
pub record Took : Type 0 where
  pub left : Option (List ℕ)
  pub left_after : Option (List ℕ)
  pub faults : ℕ
  pub faults_after : ℕ

-- a sink before and after a call: what it holds, where that is told, and its count of faults
pub record Put : Type 0 where
  pub held : Option (List ℕ)
  pub held_after : Option (List ℕ)
  pub faults : ℕ
  pub faults_after : ℕ

-- the words are the command
abbrev pub command : List (List ℕ)
command = codes "replay" ∷ []

-- the bytes were all that the source had
abbrev pub IsWhole : Took → List ℕ → Type 0
IsWhole s bytes = Consumes s.left s.left_after bytes × IsAtEnd s.left_after × (s.faults_after ≡ s.faults)

-- how many refusals and losses a batch may meet
abbrev pub budget : ℕ
budget = 100000

-- the text is that of a log, whose journal is one that the cluster allows, whose Ok answers are gathered of what their
-- pieces were answered, whose answers are those of one plain store asked the same batches in order, and each of whose
-- answers has its cause
pub record IsReplay (script : List Numbered) (text : List ℕ) : Type 0 where
  pub log : List Entry
  pub legal : LegalJournal script log
  pub gathered : AllGathered script log
  pub plain : PlainRun script log
  pub caused : AllCaused budget script log
  pub text_is : text ≡ text_of log

-- the source gave a script of a form that is built, and the text is that of its replay
pub record IsDone (words : List (List ℕ)) (s : Took) (text : List ℕ) : Type 0 where
  pub words_are : words ≡ command
  pub bytes : List ℕ
  pub whole : IsWhole s bytes
  pub script : List Numbered
  pub accepted : script_of bytes ≡ Ok script
  pub built : first_unbuilt script ≡ None
  pub replay : IsReplay script text

-- so many bytes were all that the source had; or they were one more than a script may have, and no more was taken
abbrev pub IsAllOrOneMore : Option (List ℕ) → ℕ → Type 0
IsAllOrOneMore left_after n = (IsAtEnd left_after × (n ≤ most_bytes)) ⊎ (n ≡ most_bytes + 1)

-- the bytes were enough to say what fault they have
abbrev pub IsEnough : Took → List ℕ → Type 0
IsEnough s bytes = Consumes s.left s.left_after bytes × IsAllOrOneMore s.left_after (length bytes) × (s.faults_after ≡ s.faults)

-- why the bytes are refused: the fault that they have; or they are a script whose first line of a form that isn't built
-- is this
pub data Refused (bytes : List ℕ) : Fault → Type 0 where
  Faulty : (f : Fault) → script_of bytes ≡ Err f → Refused bytes f
  Unbuilt : (script : List Numbered) (n : ℕ) → script_of bytes ≡ Ok script → first_unbuilt script ≡ Some n → Refused bytes (unbuilt n)

-- the text names the fault of what the source gave
pub record IsBad (words : List (List ℕ)) (s : Took) (text : List ℕ) : Type 0 where
  pub words_are : words ≡ command
  pub bytes : List ℕ
  pub enough : IsEnough s bytes
  pub fault : Fault
  pub refused : Refused bytes fault
  pub text_is : text ≡ fault_text fault

-- what a status says before anything is put
abbrev pub Answered : Status → List (List ℕ) → Took → List ℕ → Type 0
Answered Done words s text = IsDone words s text
Answered BadScript words s text = IsBad words s text
Answered Usage words s text = (words ≢ command) × (text ≡ usage_text)
Answered ReadFault words s text = (words ≡ command) × Rose s.faults s.faults_after × (text ≡ [])
Answered WriteFault words s text = ⊥
Answered Memory words s text = text ≡ []

-- all of the text was put, and no call of the sink failed
abbrev pub PutWhole : Put → List ℕ → Type 0
PutWhole k text = Appends k.held k.held_after text × (k.faults_after ≡ k.faults)

-- some front of the text was put, and a call of the sink failed
abbrev pub PutFront : Put → List ℕ → Type 0
PutFront k text = ((n : ℕ) × (n ≤ length text) × Appends k.held k.held_after (take n text)) × Rose k.faults k.faults_after

-- the ends that put a text: a fault of the sink may come in place of these alone
abbrev pub puts_text : Status → Bool
puts_text Done = true
puts_text BadScript = true
puts_text Usage = true
puts_text ReadFault = false
puts_text WriteFault = false
puts_text Memory = false

-- how a run ended, with what it took and put; a fault of the sink came in place of an end that puts a text
abbrev pub Ends : Status → List (List ℕ) → Took → Put → Type 0
Ends WriteFault words s k = (status : Status) × (puts_text status ≡ true) × (text : List ℕ) × Answered status words s text × PutFront k text
Ends status words s k = (text : List ℕ) × Answered status words s text × PutWhole k text

-- a fault of the sink comes in place of the log, and never of a fault of the source
in_place_of_the_log : puts_text Done ≡ true
in_place_of_the_log = refl

not_of_a_fault_of_the_source : puts_text ReadFault ≡ false
not_of_a_fault_of_the_source = refl

nor_of_want_of_memory : puts_text Memory ≡ false
nor_of_want_of_memory = refl
