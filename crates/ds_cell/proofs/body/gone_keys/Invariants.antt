use Rattle.std.proofs.Common.{◌≡◌}
use Rattle.ds_cell.specs.Replies.{gone_keys}
use Rattle.ds_cell.proofs.body.gone_keys.Given as goal

-- the keys of the answers so far
abbrev pub invariant-bits : goal.invariant-bits
invariant-bits l = l.keys ≡ gone_keys l.yielded
