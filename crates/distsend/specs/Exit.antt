-- The exit status of each end.
use Rattle.std.specs.Prelude.{ℕ}
use Rattle.distsend.specs.declared.status.Status.{Status}
use Rattle.distsend.specs.declared.status.Status.TheVariants.{Done, BadScript, Usage, ReadFault, WriteFault, Memory}

abbrev pub exit_of : Status → ℕ
exit_of Done = 0
exit_of BadScript = 1
exit_of Usage = 2
exit_of ReadFault = 3
exit_of WriteFault = 4
exit_of Memory = 5
