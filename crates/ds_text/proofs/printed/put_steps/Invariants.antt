use Rattle.std.proofs.Common.{take, string_bytes}
use Rattle.ds_text.specs.Log.{steps_objects}
use Rattle.ds_text.specs.Prints.{Prints}
use Rattle.ds_text.proofs.printed.put_steps.Given as goal

abbrev pub invariant-loop-index : goal.invariant-loop-index
invariant-loop-index l = Prints (string_bytes l.initial.out) (steps_objects l.line (take l.index l.steps)) (string_bytes l.out)
