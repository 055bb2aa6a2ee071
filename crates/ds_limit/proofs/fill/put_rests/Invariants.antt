use Rattle.std.proofs.Common.{◌≡◌, ◌≤◌, length, vec_len}
use Rattle.ds_limit.specs.Rests.{with_rests}
use Rattle.ds_limit.proofs.fill.put_rests.Given as goal

-- the replies with what was put into them, and with what is still to be put into them
abbrev pub invariant-loop-rest : goal.invariant-loop-rest
invariant-loop-rest l = record {
  whole : with_rests l.list.items l.rests.items ≡ with_rests l.initial.list.items l.initial.rests.items;
  fit : length l.rests.items ≤ length l.list.items;
}

abbrev pub decreases-loop-rest : goal.decreases-loop-rest
decreases-loop-rest l = vec_len l.rests
