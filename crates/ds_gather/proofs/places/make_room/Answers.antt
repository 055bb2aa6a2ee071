use Rattle.std.proofs.Common.{rules, sym}
use Rattle.ds_gather.specs.Places.{Found, NoneAt, grown}
use Rattle.ds_gather.proofs.Placing.{unchanged}
use Rattle.ds_gather.proofs.Changing.{room_ok, room_err}
use Rattle.ds_gather.proofs.places.make_room.Goals as goal

pub returns-in-Some-clause-ok : goal.returns-in-Some-clause-ok
returns-in-Some-clause-ok c =
    let ps = c.args.places.now.items in
    let old = c.index_mut-place.result.now in
    let at : Found c.args.pos c.args.places.now.items c.in-Some.i = search rules in
    room_ok c.args.pos c.args.reply.now ps c.in-Some.i old c.more.new.self c.more.result at c.index_mut-place.ensures.value c.more.ensures.ok

pub returns-in-Some-clause-err : goal.returns-in-Some-clause-err
returns-in-Some-clause-err c =
    let ps = c.args.places.now.items in
    let old = c.index_mut-place.result.now in
    room_err ps c.in-Some.i old c.more.new.self c.more.result c.index_mut-place.ensures.value c.more.ensures.err

pub returns-in-None-clause-ok : goal.returns-in-None-clause-ok
returns-in-None-clause-ok c =
    let none : NoneAt c.args.pos c.args.places.now.items = search rules in
    sym (unchanged c.args.pos (grown c.args.reply.now) c.args.places.now.items none)
