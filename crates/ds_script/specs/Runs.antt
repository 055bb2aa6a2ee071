-- A script against a log: what each line and its entry make of a state, one line after another.
use Rattle.std.specs.Prelude.{◌≡◌, ℕ, ◌+◌, Bool, true, false, ◌&&◌, List, [], ◌∷◌, ◌++◌, Option, Some, None, is_some}
use Rattle.ds_kind.specs.declared.batch.Batch.{Batch}
use Rattle.ds_rule.specs.declared.event.Event.{Event}
use Rattle.ds_rule.specs.declared.event.Event.TheVariants as events
use Rattle.ds_rule.specs.declared.journal.Entry.{Entry}
use Rattle.ds_rule.specs.declared.journal.Entry.TheVariants as entries
use Rattle.ds_script.specs.declared.line.Line.{Line}
use Rattle.ds_script.specs.declared.line.Line.TheVariants as lines
use Rattle.ds_script.specs.declared.line.Numbered.{Numbered}

-- a batch, a close and a restart have an entry of their own in a log
abbrev pub has_entry : Line → Bool
has_entry (lines.Batch b block) = true
has_entry lines.Close = true
has_entry lines.Restart = true
has_entry l = false

abbrev pub line_of : Entry → ℕ
line_of (entries.Batch line steps outcome) = line
line_of (entries.Closed line status) = line
line_of (entries.Restarted line epoch) = line

-- a line with an entry takes the log's first, which names the line
abbrev pub TakesEntry : Bool → ℕ → List Entry → Option Entry → List Entry → Type 0
TakesEntry true n log (Some e) rest = (log ≡ e ∷ rest) × (line_of e ≡ n)
TakesEntry true n log None rest = ⊥
TakesEntry false n log (Some e) rest = ⊥
TakesEntry false n log None rest = rest ≡ log

-- one line after another, each with its own entry, and no entry left
abbrev pub Plays : {S : Type 0} → (S → Line → Option Entry → S → Type 0) → S → List Numbered → List Entry → S → Type 0
Plays T s [] log v = (log ≡ []) × (v ≡ s)
Plays {S = S} T s (l ∷ ls) log v =
    (e : Option Entry) × (rest : List Entry) × (m : S) × TakesEntry (has_entry l.line) l.number log e rest × T s l.line e m × Plays T m ls rest v

-- the event that a line is, if it is one
abbrev pub event_of : Line → Option Event
event_of (lines.Write k s v) = Some (events.Write k s v)
event_of (lines.Split k) = Some (events.Split k)
event_of (lines.Merge k) = Some (events.Merge k)
event_of (lines.Lease k n) = Some (events.Lease k n)
event_of (lines.Move k ns) = Some (events.Move k ns)
event_of (lines.Stale k b) = Some (events.Stale k b)
event_of lines.Abort = Some events.Abort
event_of (lines.Arrive c) = Some (events.Arrive c)
event_of l = None
