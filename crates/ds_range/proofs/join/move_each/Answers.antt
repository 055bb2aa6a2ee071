use Rattle.std.proofs.Common.{rules, ◌≡◌, ◌∷◌, None}
use Rattle.ds_range.specs.Joins.{ChangedAt}
use Rattle.ds_range.proofs.Joining.{among_more, moving_more}
use Rattle.ds_range.proofs.join.move_each.Goals as goal

pub from-preserved : goal.from-preserved
from-preserved c =
    let is : c.from.from.entries ≡ (c.in-Some.key, c.in-Some.cell) ∷ c.pop_first.new.self.entries = search rules in
    let taken : ChangedAt c.in-Some.key None c.from.from.entries c.pop_first.new.self.entries = c.in-Some.ensures.updates.0 in record {
      among = among_more c.from.from.entries c.pop_first.new.self.entries c.from.to.entries c.put_at.new.cells.entries (c.in-Some.key, c.in-Some.cell) taken c.put_at.ensures c.from.invariant.among;
      moving = moving_more c.args.from.now.entries c.args.to.now.entries c.from.from.entries c.pop_first.new.self.entries c.from.to.entries c.put_at.new.cells.entries (c.in-Some.key, c.in-Some.cell) is taken c.put_at.ensures c.from.invariant.moving;
    }
