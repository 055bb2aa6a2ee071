use Rattle.std.proofs.Common.{◌<◌, length, sym, subst}
use Rattle.ds_ranges.proofs.Events.{id-low}
use Rattle.ds_ranges.proofs.descs.own_place.Goals as goal

pub noted-requires : goal.noted-requires
noted-requires c =
    subst (λ n. n < length c.args.places.now) (sym c.id_of.ensures)
    (id-low c.args.ranges.now c.args.lineage.now c.args.places.now c.args.at c.range_at.result.now c.requires.sound c.range_at.ensures)
