use Rattle.std.proofs.Common.{rules, ◌≡◌, ap, map, length}
use Rattle.ds_gather.specs.Numbered.{came_in}
use Rattle.ds_gather.specs.Places.{place_for}
use Rattle.ds_gather.proofs.Receiving.{ready_new, replies_none, replies_room, new_view, none_numbered}
use Rattle.ds_gather.proofs.gather.Gather.new.Goals as goal

pub invariant_of-result : goal.invariant_of-result
invariant_of-result c =
    let is = c.args.part.now.items in
    let ps = c.in_ok-places.places.items in
    let places : c.in_ok-places.places.items ≡ map place_for c.args.part.now.items = search rules in
    let count : c.len.result ≡ length c.args.part.now.items = search rules in (
      ready_new is ps (came_in c.new.result.items) c.requires places (ap came_in c.new.ensures.items),
      replies_none c.new-replies.result c.more.new.self c.len.result c.new-replies.ensures c.in_ok-more.ensures.ok,
      replies_room is ps c.new-replies.result c.more.new.self c.len.result c.new-replies.ensures c.in_ok-more.ensures.ok count places,
      none_numbered c.new.result.items c.new.ensures.items,
    )

pub returns : goal.returns
returns c =
    let places : c.in_ok-places.places.items ≡ map place_for c.args.part.now.items = search rules in
    new_view c.args.part.now.items c.in_ok-places.places.items (came_in c.new.result.items) places (ap came_in c.new.ensures.items)
