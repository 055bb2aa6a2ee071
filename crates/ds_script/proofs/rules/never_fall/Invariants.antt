use Rattle.std.proofs.Common.{◌≡◌, drop}
use Rattle.ds_rule.specs.Blocks.{never_fall}
use Rattle.ds_script.proofs.rules.never_fall.Given as goal

abbrev pub invariant-loop-timed : goal.invariant-loop-timed
invariant-loop-timed l =
    never_fall l.last (drop l.timed-index l.events) ≡ never_fall 0 l.events
