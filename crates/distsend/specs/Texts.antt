-- The lines that say why nothing was replayed.
use Rattle.std.specs.Prelude.{ℕ, List, codes}
use Rattle.ds_fields.specs.declared.fault.FaultKind.TheVariants.{Shape}
use Rattle.ds_script.specs.Script.{Fault}
use Rattle.ds_text.specs.Faults.{kind_text}
use Rattle.ds_text.specs.Lines.{fault_line}
use Rattle.ds_text.specs.Log.{line_text}

-- the line of a fault
abbrev pub fault_text : Fault → List ℕ
fault_text f = line_text (fault_line (kind_text f.kind) f.line)

-- the line is of a form that isn't built yet
abbrev pub unbuilt : ℕ → Fault
unbuilt n = record { line = n; kind = Shape }

abbrev pub usage_text : List ℕ
usage_text = codes "{\"fault\":\"usage\"}\n"
