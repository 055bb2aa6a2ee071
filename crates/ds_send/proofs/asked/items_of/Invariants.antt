use Rattle.std.proofs.Common.{◌≡◌, ◌++◌, drop}
use Rattle.ds_kind.specs.Parts.{items_from}
use Rattle.ds_send.proofs.asked.items_of.Given as goal

-- the items so far, and those of the requests still to come
abbrev pub invariant-requests : goal.invariant-requests
invariant-requests l = l.items ++ items_from l.i (drop l.i l.requests) (drop l.i l.seqs) ≡ items_from 0 l.requests l.seqs
