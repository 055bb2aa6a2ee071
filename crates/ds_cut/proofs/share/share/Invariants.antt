use Rattle.std.proofs.Common.{◌++◌, vec_capacity}
use Rattle.std.specs.Vec.Iter.{into_iter_items}
use Rattle.ds_cut.specs.Fates.{all_cut, all_left}
use Rattle.ds_cut.proofs.Sharing.{Sharing}
use Rattle.ds_cut.proofs.share.share.Given as goal

abbrev pub invariant-items : goal.invariant-items
invariant-items l = Sharing (into_iter_items l.item-iterator) (into_iter_items l.fates) l.cut.items l.left.items (vec_capacity l.cut) (vec_capacity l.left) (l.fn.cut.items ++ all_cut l.fn.fates.items l.fn.items.items) (l.fn.left.items ++ all_left l.fn.fates.items l.fn.items.items)
