use Rattle.std.proofs.Common.{◌≤◌, length, arith}
use Rattle.ds_replay.proofs.Takings.{cluster-begun, cluster-taken}
use Rattle.ds_replay.proofs.lines.from_start.Goals as goal

pub new-requires-clause-few : goal.new-requires-clause-few
new-requires-clause-few c =
    let few : length c.in-Cluster.cluster.ranges ≤ 1024 = (cluster-begun c.in-Cluster.cluster c.args.numbered.now c.in-Cluster.is c.requires).few in
    rw c.as_slice.ensures (omega (arith, few))

pub new-requires-clause-leased : goal.new-requires-clause-leased
new-requires-clause-leased c = rw c.as_slice.ensures (cluster-begun c.in-Cluster.cluster c.args.numbered.now c.in-Cluster.is c.requires).leased

pub returns-clause-stage : goal.returns-clause-stage
returns-clause-stage c = (cluster-begun c.in-Cluster.cluster c.args.numbered.now c.in-Cluster.is c.requires).stage

pub returns-clause-taken : goal.returns-clause-taken
returns-clause-taken c = λ n. cluster-taken c.in_ok-new-in-Cluster.field-0 c.in-Cluster.cluster c.args.numbered.now c.args.log.now c.in-Cluster.is c.requires (rw (← c.as_slice.ensures) c.in_ok-new-in-Cluster.ensures)
