use Rattle.ds_gather.specs.Numbered.{came_in}
use Rattle.ds_gather.proofs.Filling.{room_there}
use Rattle.ds_gather.proofs.Receiving.{taken}
use Rattle.ds_gather.proofs.gather.Gather.take.Goals as goal

pub distributed-requires-clause-room : goal.distributed-requires-clause-room
distributed-requires-clause-room c =
    room_there (came_in c.self.inside.got.items) (came_in c.in_key_order.result.items) c.self.inside.places.items c.in_key_order.ensures c.self.invariant.0.room

pub returns : goal.returns
returns c =
    taken c.args.self (came_in c.self.inside.got.items) (came_in c.in_key_order.result.items) c.self.inside.places.items c.distributed.result.items c.self.inside.replies.items c.replies_of.result
    c.self.view_is c.in_key_order.ensures c.self.invariant.0 c.self.invariant.1 c.distributed.ensures.all c.replies_of.ensures
