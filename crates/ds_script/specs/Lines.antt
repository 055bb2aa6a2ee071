-- One line of a script, from its bytes.
use Rattle.std.specs.Prelude.{ℕ, List, [], Option, Some, None, Result, Ok, Err, if◌then◌else◌}
use Rattle.ds_base.specs.declared.key.Key.{Key}
use Rattle.ds_fields.specs.declared.fault.FaultKind.{FaultKind}
use Rattle.ds_fields.specs.declared.fault.FaultKind.TheVariants.{Range}
use Rattle.ds_fields.specs.Fault.{◌>>=◌}
use Rattle.ds_fields.specs.Members.{json_of}
use Rattle.ds_script.specs.declared.line.Line.{Line}
use Rattle.ds_script.specs.Forms.{form_of}
use Rattle.ds_script.specs.Limits.{line_fits}

-- a line of a cluster of so many nodes, within its limits
abbrev pub in_range : ℕ → Option Line → Result Line FaultKind
in_range nodes None = Err Range
in_range nodes (Some line) = if line_fits nodes line then Ok line else Err Range

-- the line while a transaction with this anchor is open
unfoldable pub line_under : Key → ℕ → List ℕ → Result Line FaultKind
line_under anchor nodes bytes = do
  d ← json_of bytes
  line ← form_of anchor d
  in_range nodes line

-- the line alone: an end of the transaction has the empty key
abbrev pub line_of : ℕ → List ℕ → Result Line FaultKind
line_of nodes bytes = line_under [] nodes bytes
