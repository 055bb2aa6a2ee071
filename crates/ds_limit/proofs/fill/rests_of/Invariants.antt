use Rattle.std.specs.Option.{option_copied}
use Rattle.ds_limit.proofs.RestFacts.{Ahead}
use Rattle.ds_limit.proofs.fill.rests_of.Given as goal

-- what is left of the items so far, and the items that are still ahead
abbrev pub invariant-loop-i : goal.invariant-loop-i
invariant-loop-i l = Ahead l.part.dir (option_copied l.seek) l.items l.replies l.rests.items l.i
