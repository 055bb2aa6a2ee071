use Rattle.std.proofs.Common.{◌≡◌, drop}
use Rattle.ds_script.specs.Rules.{claims}
use Rattle.ds_script.proofs.rules.claim_all.Given as goal

abbrev pub invariant-loop-timed : goal.invariant-loop-timed
invariant-loop-timed l =
    claims l.line l.lost (drop l.timed-index l.events) l.copies ≡ claims l.line 0 l.events l.fn.copies
