-- What a request gathers from key to key, and how its writes are made.
use Rattle.std.specs.Prelude.{ℕ, List, [], ◌∷◌, ◌++◌, Option, Some, None, is_some, if◌then◌else◌}
use Rattle.ds_base.specs.declared.value.Value.{Value}
use Rattle.ds_cell.specs.declared.entry.At.{At}
use Rattle.ds_cell.specs.declared.verdict.Verdict.{Verdict}
use Rattle.ds_cell.specs.declared.verdict.Verdict.TheVariants.{Keep, Put, Refuse}
use Rattle.ds_cell.specs.declared.verdict.Bit.{Bit}
use Rattle.ds_cell.specs.declared.verdict.ActFault.{ActFault}
use Rattle.ds_cell.specs.Content.{Content}
use Rattle.ds_cell.specs.Seen.{under, own}
use Rattle.ds_cell.specs.Change.{wrote}
use Rattle.ds_cell.specs.Ask.{Cells, Asked, Failed, Gave}
use Rattle.ds_cell.specs.Store.{put_cell}
use Rattle.ds_range.specs.declared.ask.Asked.{Asked as Answered}

-- what the code's answer says
abbrev pub asked_of : Answered → Asked
asked_of (Answered.Failed k f) = Failed k f
asked_of (Answered.Gave bits writes) = Gave bits writes

-- what was gathered, and what the next key adds
abbrev pub with_verdict : List ℕ → Verdict → Asked → Asked
with_verdict k v (Failed q f) = Failed q f
with_verdict k (Keep b) (Gave bs ws) = Gave (bs ++ (k, b) ∷ []) ws
with_verdict k (Put w b) (Gave bs ws) = Gave (bs ++ (k, b) ∷ []) (ws ++ (k, w) ∷ [])
with_verdict k (Refuse f) (Gave bs ws) = Failed k f

-- what was gathered, unless the key refused
abbrev pub unless_refused : List ℕ → Option ActFault → List (List ℕ × Bit) → List (List ℕ × Option Value) → Asked
unless_refused k None bs ws = Gave bs ws
unless_refused k (Some f) bs ws = Failed k f

-- a write under a number that has none yet
abbrev pub wrote_once : At → Option Value → Content → Content
wrote_once at w c = if is_some (under at.seq.0 (own at c)) then c else wrote at w c

-- such writes, one after another
abbrev pub wrote_each : At → List (List ℕ × Option Value) → Cells → Cells
wrote_each at [] cells = cells
wrote_each at (w ∷ ws) cells = wrote_each at ws (put_cell w.0 (wrote_once at w.1) cells)
