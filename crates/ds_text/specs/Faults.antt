-- The line of a script's fault.
use Rattle.std.specs.Prelude.{ℕ, List, Bool, true, false, codes}
use Rattle.serde_json.specs.Data.{Data}
use Rattle.ds_fields.specs.declared.fault.FaultKind.{FaultKind}
use Rattle.ds_fields.specs.declared.fault.FaultKind.TheVariants.{TooLong, Json, Shape, Range, Order, LowWrite, TxnOpen}
use Rattle.ds_script.specs.declared.fault.ScriptFault.{ScriptFault}
use Rattle.ds_script.specs.declared.fault.ScriptFault.TheVariants.{Bad, Memory}
use Rattle.ds_text.specs.Simple.{empty}
use Rattle.ds_text.specs.Lines.{fault_line}

abbrev pub kind_text : FaultKind → List ℕ
kind_text TooLong = codes "too_long"
kind_text Json = codes "json"
kind_text Shape = codes "shape"
kind_text Range = codes "range"
kind_text Order = codes "order"
kind_text LowWrite = codes "low_write"
kind_text TxnOpen = codes "txn_open"

-- whether the fault names a line; want of memory names none
abbrev pub names_line : ScriptFault → Bool
names_line (Bad n k) = true
names_line (Memory e) = false

abbrev pub fault_data : ScriptFault → Data
fault_data (Bad n k) = fault_line (kind_text k) n
fault_data (Memory e) = empty
