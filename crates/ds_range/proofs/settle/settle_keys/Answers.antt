use Rattle.std.proofs.Common.{◌∙◌}
use Rattle.ds_range.proofs.Maps.{settled_take}
use Rattle.ds_range.proofs.settle.settle_keys.Goals as goal

pub keys-preserved : goal.keys-preserved
keys-preserved c = record {
  made = settled_take c.args.txn.0 c.args.commit c.args.keys.now c.keys.key-index c.key-item.result c.args.cells.now.entries c.keys.cells.entries c.change_kept.new.cells.entries c.keys.invariant.made c.keys-test.true c.key-item.is c.in_ok-change_kept.ensures.ok;
  back = c.change_kept.ensures.back ∙ c.keys.invariant.back;
}
