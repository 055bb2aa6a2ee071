use Rattle.std.proofs.Common.{rules, sym}
use Rattle.ds_gather.specs.Places.{Found, NoneAt, handed}
use Rattle.ds_gather.proofs.Placing.{unchanged}
use Rattle.ds_gather.proofs.Changing.{changed_so, found_room, found_pos, room_for_one}
use Rattle.ds_gather.proofs.places.hand_over.Goals as goal

pub hand-requires : goal.hand-requires
hand-requires c =
    let ps = c.args.places.now.items in
    let a = c.args.arrival in
    let old = c.index_mut-place.result.now in
    let at : Found c.args.arrival.pos c.args.places.now.items c.in-Some.i = search rules in
    room_for_one a old (found_pos a.pos ps c.in-Some.i old at c.index_mut-place.ensures.value) (found_room a ps c.in-Some.i old at c.index_mut-place.ensures.value c.requires.room)

pub returns-in-Some : goal.returns-in-Some
returns-in-Some c =
    let at : Found c.args.arrival.pos c.args.places.now.items c.in-Some.i = search rules in
    changed_so c.args.arrival.pos (handed c.args.arrival) c.args.places.now.items c.in-Some.i c.index_mut-place.result.now c.hand.new.self at c.index_mut-place.ensures.value c.hand.ensures

pub returns-in-None : goal.returns-in-None
returns-in-None c =
    let none : NoneAt c.args.arrival.pos c.args.places.now.items = search rules in
    sym (unchanged c.args.arrival.pos (handed c.args.arrival) c.args.places.now.items none)
