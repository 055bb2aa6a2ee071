-- The form of a script so far, as the code keeps it.
use Rattle.std.specs.Prelude.{ℕ, Option}
use Rattle.std.specs.Option.{option_map}
use Rattle.ds_base.specs.declared.value.Stamp.{Stamp}
use Rattle.ds_replay.specs.declared.built.Form.{Form}
use Rattle.ds_replay.specs.Built.{Stage, Start, Running}

abbrev pub stamp_by : Option Stamp → Option ℕ
stamp_by o = option_map (λ s. s.0) o

abbrev pub form_stage : Form → Stage
form_stage Form.Start = Start
form_stage (Form.Running o) = Running (stamp_by o)
