use Rattle.std.specs.Vec.Iter.{into_iter_items}
use Rattle.ds_gather.specs.Numbered.{came_in}
use Rattle.ds_gather.proofs.Filling.{Spread}
use Rattle.ds_gather.proofs.places.distributed.Given as goal

-- what is left has room, and put at its places with what was put makes the same
abbrev pub invariant-got : goal.invariant-got
invariant-got l = Spread (came_in (into_iter_items l.came-iterator)) l.places.items (came_in l.fn.got.items) l.initial.places.items
