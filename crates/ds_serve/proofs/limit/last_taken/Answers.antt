use Rattle.std.proofs.Common.{rules, ◌≡◌}
use Rattle.ds_base.proofs.KeyOrder.{between_holds}
use Rattle.ds_base.specs.Ordered.{between}
use Rattle.ds_kind.specs.Bodies.{goes_down}
use Rattle.ds_cell.specs.Ask.{key_of}
use Rattle.ds_serve.proofs.Limits.{taking_first}
use Rattle.ds_serve.proofs.limit.last_taken.Goals as goal

pub rest-init : goal.rest-init
rest-init c =
    let from : c.range-rest.result ≡ between key_of c.args.start.now c.args.end.now c.args.cells.now.entries =
    rw (← between_holds c.args.start.now c.args.end.now c.args.cells.now.entries) (search rules) in
    let way : c.flags-down.result.reverse ≡ goes_down c.args.request.now = search rules in
    taking_first c.args.request.now c.args.at c.flags-down.result.reverse c.args.start.now c.args.end.now c.args.cells.now.entries c.range-rest.result c.args.more way c.requires.reach from
