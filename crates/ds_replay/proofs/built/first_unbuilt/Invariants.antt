use Rattle.std.proofs.Common.{◌≡◌, drop}
use Rattle.ds_replay.specs.Built.{unbuilt_from, first_unbuilt}
use Rattle.ds_replay.specs.Forms.{form_stage}
use Rattle.ds_replay.proofs.built.first_unbuilt.Given as goal

-- the lines still to come decide
abbrev pub invariant-lines : goal.invariant-lines
invariant-lines l = unbuilt_from (drop l.numbered-index l.numbered-items) (form_stage l.form) ≡ first_unbuilt l.script.lines
