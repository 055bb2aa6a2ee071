use Rattle.std.proofs.Common.{rules, ◌≡◌, Some}
use Rattle.ds_range.proofs.Dividing.{covers_all}
use Rattle.ds_range.proofs.shape.together.Goals as goal

pub returns-in-Ok : goal.returns-in-Ok
returns-in-Ok c =
    let left : c.args.left ≡ Some c.in-Some-Some.keys = search rules in
    let right : c.args.right ≡ Some c.in-Some-Some.more = search rules in
    covers_all c.args.left c.args.right c.in-Some-Some.keys c.in-Some-Some.more c.append.new.self left right c.in-Ok.ensures.ok
