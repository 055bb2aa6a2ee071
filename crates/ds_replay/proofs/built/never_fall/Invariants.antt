use Rattle.std.proofs.Common.{◌≡◌, drop}
use Rattle.ds_rule.specs.Blocks.{never_fall}
use Rattle.ds_replay.proofs.built.never_fall.Given as goal

abbrev pub invariant-events : goal.invariant-events
invariant-events l =
    never_fall l.last (drop l.timed-index l.events) ≡ never_fall 0 l.events
