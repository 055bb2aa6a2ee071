use Rattle.std.proofs.Common.{subst}
use Rattle.ds_sim.specs.Made.{CanBeMade}
use Rattle.ds_sim.proofs.Moving.{made_of_ranges}
use Rattle.ds_sim.proofs.event.make.Goals as goal

pub write_copy-requires : goal.write_copy-requires
write_copy-requires c = subst CanBeMade c.in-Write.is c.requires

pub returns-in_ok-write_copy-in-Write-clause-ok : goal.returns-in_ok-write_copy-in-Write-clause-ok
returns-in_ok-write_copy-in-Write-clause-ok c =
    made_of_ranges c.args.ranges.now c.write_copy.new.ranges c.args.armed.now.items c.args.records.now c.args.event.now _ c.in-Write.is c.in_ok-write_copy-in-Write.ensures.ok

pub returns-in_ok-split-in-Split-clause-ok : goal.returns-in_ok-split-in-Split-clause-ok
returns-in_ok-split-in-Split-clause-ok c =
    made_of_ranges c.args.ranges.now c.split.new.self c.args.armed.now.items c.args.records.now c.args.event.now _ c.in-Split.is c.in_ok-split-in-Split.ensures.ok

pub returns-in_ok-merge-in-Merge-clause-ok : goal.returns-in_ok-merge-in-Merge-clause-ok
returns-in_ok-merge-in-Merge-clause-ok c =
    made_of_ranges c.args.ranges.now c.merge.new.self c.args.armed.now.items c.args.records.now c.args.event.now _ c.in-Merge.is c.in_ok-merge-in-Merge.ensures.ok

pub returns-in-Lease-clause-ok : goal.returns-in-Lease-clause-ok
returns-in-Lease-clause-ok c =
    made_of_ranges c.args.ranges.now c.lease.new.self c.args.armed.now.items c.args.records.now c.args.event.now _ c.in-Lease.is c.lease.ensures

pub returns-in_ok-place_copy-in-Move-clause-ok : goal.returns-in_ok-place_copy-in-Move-clause-ok
returns-in_ok-place_copy-in-Move-clause-ok c =
    made_of_ranges c.args.ranges.now c.place_copy.new.ranges c.args.armed.now.items c.args.records.now c.args.event.now _ c.in-Move.is c.in_ok-place_copy-in-Move.ensures.ok
