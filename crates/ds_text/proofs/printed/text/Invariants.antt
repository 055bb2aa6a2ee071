use Rattle.std.proofs.Common.{[], take, string_bytes}
use Rattle.ds_text.specs.Log.{log_objects}
use Rattle.ds_text.specs.Prints.{Prints}
use Rattle.ds_text.proofs.printed.text.Given as goal

abbrev pub invariant-loop-entry : goal.invariant-loop-entry
invariant-loop-entry l = Prints [] (log_objects (take l.entry-index l.entry-items)) (string_bytes l.out)
