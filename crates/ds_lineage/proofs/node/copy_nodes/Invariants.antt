use Rattle.std.proofs.Common.{◌≡◌, take}
use Rattle.ds_lineage.proofs.node.copy_nodes.Given as goal

-- what has been copied so far
abbrev pub invariant-each : goal.invariant-each
invariant-each l = l.made.items ≡ take l.node-index l.nodes
