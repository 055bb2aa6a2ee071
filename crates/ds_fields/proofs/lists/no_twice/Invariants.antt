use Rattle.std.proofs.Common.{◌≡◌, length}
use Rattle.ds_desc.specs.Replicas.{no_twice}
use Rattle.ds_fields.proofs.lists.no_twice.Given as goal

abbrev pub invariant-loop-first : goal.invariant-loop-first
invariant-loop-first l = no_twice l.rest ≡ no_twice l.nodes

abbrev pub decreases-loop-first : goal.decreases-loop-first
decreases-loop-first l = length l.rest
