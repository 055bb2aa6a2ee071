use Rattle.std.proofs.Common.{◌≡◌, true, drop, take}
use Rattle.ds_text.specs.Log.{has_texts}
use Rattle.ds_replay.proofs.Scripts.{Replaying}
use Rattle.ds_replay.proofs.script.replay.Given as goal

-- the lines so far are played, the log has texts, and the sender has its budget
abbrev pub invariant-lines : goal.invariant-lines
invariant-lines l =
    Replaying l.fn.settings.budget (take l.numbered-index l.numbered-items) (drop l.numbered-index l.numbered-items) l.numbered-index l.state l.log
    × (has_texts l.log ≡ true)
    × (l.sender.budget ≡ l.fn.settings.budget)
