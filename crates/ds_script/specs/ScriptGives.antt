-- What a reader of scripts says of `script_of`.
use Rattle.std.specs.Prelude.{◌≡◌, Result, Ok, Err}
use Rattle.ds_script.specs.declared.fault.ScriptFault.{ScriptFault}
use Rattle.ds_script.specs.declared.fault.ScriptFault.TheVariants as faults
use Rattle.ds_script.specs.Script.{Fault}

-- What was found, seen through `view`, is what the definition gives. Want of memory is free.
abbrev pub Fails : {Y : Type 0} → ScriptFault → Result Y Fault → Type 0
Fails (faults.Bad n k) read = read ≡ Err (record { line = n; kind = k })
Fails (faults.Memory e) read = Unit {0}

abbrev pub Finds : {X Y : Type 0} → (X → Y) → Result X ScriptFault → Result Y Fault → Type 0
Finds view (Ok x) read = read ≡ Ok (view x)
Finds view (Err e) read = Fails e read
