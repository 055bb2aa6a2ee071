use Rattle.std.proofs.Common.{[], refl}
use Rattle.ds_ranges.proofs.Touching.{parted-ends, parted-rest, touched}
use Rattle.ds_ranges.proofs.touched.touched.Goals as goal

pub before-requires : goal.before-requires
before-requires c = parted-ends c.args.items.now [] c.args.ranges.now c.requires

pub reached-requires : goal.reached-requires
reached-requires c = parted-rest c.args.items.now c.args.ranges.now _ c.before-2.result c.requires refl

pub returns : goal.returns
returns c = touched c.args.items.now c.args.ranges.now _ c.before-2.result c.reached.result refl c.before-2.ensures.point c.reached.ensures.point
