use Rattle.std.proofs.Common.{rules, ◌≡◌, ◌∷◌, [], ap}
use Rattle.std.specs.Vec.Iter.{into_iter_items}
use Rattle.ds_gather.specs.Numbered.{came_in}
use Rattle.ds_gather.proofs.Filling.{nothing_left, spread_more, spread_room, spread_all, spread_end}
use Rattle.ds_gather.proofs.places.distributed.Goals as goal

pub hand_over-requires-clause-room : goal.hand_over-requires-clause-room
hand_over-requires-clause-room c =
    let next : into_iter_items c.got.came-iterator ≡ c.in-Some.came ∷ into_iter_items c.next.new.self = search rules in
    spread_room _ _ (came_in (into_iter_items c.next.new.self)) _ c.got.places.items c.in-Some.came.arrival (ap came_in next) c.got.invariant

pub got-preserved : goal.got-preserved
got-preserved c =
    let next : into_iter_items c.got.came-iterator ≡ c.in-Some.came ∷ into_iter_items c.next.new.self = search rules in
    spread_more _ _ (came_in (into_iter_items c.next.new.self)) _ c.got.places.items c.hand_over.new.places.items c.in-Some.came.arrival (ap came_in next) c.hand_over.ensures c.got.invariant

pub returns-clause-all : goal.returns-clause-all
returns-clause-all c =
    let none : into_iter_items c.got.came-iterator ≡ [] = nothing_left _ (search rules) in
    spread_all _ _ _ c.got.places.items (ap came_in none) c.got.invariant

pub returns-clause-room : goal.returns-clause-room
returns-clause-room c =
    let none : into_iter_items c.got.came-iterator ≡ [] = nothing_left _ (search rules) in
    spread_end _ _ _ c.got.places.items (ap came_in none) c.got.invariant
