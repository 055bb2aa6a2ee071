use Rattle.std.proofs.Common.{rules, ◌≡◌}
use Rattle.ds_kind.specs.Reach.{At}
use Rattle.ds_kind.specs.Request.{reach_of}
use Rattle.ds_range.proofs.Held.{held_at}
use Rattle.ds_range.proofs.state.RangeState.holds_item.Goals as goal

pub returns-in-Point : goal.returns-in-Point
returns-in-Point c =
    let place : At c.in-Point.key.now ≡ reach_of c.args.item.now.request = search rules in
    search (rules, held_at c.args.self.now c.args.item.now c.in-Point.key.now place)
