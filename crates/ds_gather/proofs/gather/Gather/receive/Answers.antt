use Rattle.std.proofs.Common.{rules, ◌≡◌, length, ap, sym, subst}
use Rattle.ds_gather.specs.Gathered.{arrival}
use Rattle.ds_gather.specs.Numbered.{came_in, AreNumbered}
use Rattle.ds_gather.proofs.Receiving.{pushed_so, pushed_numbered, made_err, made_ok, made_length, made_wanted, kept_view, received, on_err}
use Rattle.ds_gather.proofs.gather.Gather.receive.Goals as goal

pub invariant_of-self-in_err-push : goal.invariant_of-self-in_err-push
invariant_of-self-in_err-push c =
    let n = c.args.item.now.pos in
    let ps = c.self.inside.places.items in
    let qs = c.make_room.new.places.items in
    let same : c.push.new.self.items ≡ c.self.inside.got.items = search rules in (
      made_err n c.args.reply (came_in c.self.inside.got.items) (came_in c.push.new.self.items) ps qs c.in_ok-make_room.ensures.ok (ap came_in same) c.self.invariant.0,
      c.self.invariant.1,
      made_length n c.args.reply ps qs c.self.inside.replies.size c.in_ok-make_room.ensures.ok c.self.invariant.2,
      subst AreNumbered (sym same) c.self.invariant.3,
    )

pub returns-in_err-push-clause-err : goal.returns-in_err-push-clause-err
returns-in_err-push-clause-err c =
    let n = c.args.item.now.pos in
    let ps = c.self.inside.places.items in
    let qs = c.make_room.new.places.items in
    let same : c.push.new.self.items ≡ c.self.inside.got.items = search rules in
    on_err c.from_residual-in_err-push.result
    (kept_view c.args.self.now ps qs (came_in c.self.inside.got.items) (came_in c.push.new.self.items) c.self.view_is (made_wanted n c.args.reply ps qs c.in_ok-make_room.ensures.ok) (ap came_in same))

pub invariant_of-self-2 : goal.invariant_of-self-2
invariant_of-self-2 c =
    let n = c.args.item.now.pos in
    let ps = c.self.inside.places.items in
    let qs = c.make_room.new.places.items in
    let pushed = pushed_so c.self.inside.got.items c.push.new.self.items c.args.item.now c.in_ok-start.start c.args.reply c.len-number.result c.in_ok-start.ensures c.in_ok-push.ensures.items in
    let count : c.len-number.result ≡ length c.self.inside.got.items = search rules in (
      made_ok (arrival c.args.item.now c.args.reply) (came_in c.self.inside.got.items) (came_in c.push.new.self.items) ps qs c.in_ok-make_room.ensures.ok pushed c.self.invariant.0,
      c.self.invariant.1,
      made_length n c.args.reply ps qs c.self.inside.replies.size c.in_ok-make_room.ensures.ok c.self.invariant.2,
      pushed_numbered c.self.inside.got.items c.push.new.self.items _ c.len-number.result c.in_ok-push.ensures.items count c.self.invariant.3,
    )

pub returns-clause-ok : goal.returns-clause-ok
returns-clause-ok c =
    let n = c.args.item.now.pos in
    let ps = c.self.inside.places.items in
    let qs = c.make_room.new.places.items in
    let pushed = pushed_so c.self.inside.got.items c.push.new.self.items c.args.item.now c.in_ok-start.start c.args.reply c.len-number.result c.in_ok-start.ensures c.in_ok-push.ensures.items in
    received c.args.self.now ps qs (came_in c.self.inside.got.items) (came_in c.push.new.self.items) (arrival c.args.item.now c.args.reply) c.self.view_is (made_wanted n c.args.reply ps qs c.in_ok-make_room.ensures.ok) pushed
