use Rattle.ds_ranges.proofs.Alike.{alike-sound}
use Rattle.ds_ranges.proofs.ranges.Ranges.settle.Goals as goal

pub invariant_of-self : goal.invariant_of-self
invariant_of-self c =
    alike-sound c.self.inside.items.items c.settle_ranges.new.ranges.items c.self.inside.lineage c.self.inside.places.items c.settle_ranges.ensures.alike c.self.invariant
