use Rattle.std.proofs.Common.{ap}
use Rattle.ds_range.proofs.Neighbours.{neighbours_ascend, start_below_end}
use Rattle.ds_range.proofs.state.RangeState.merge.Goals as goal

pub join_cells-requires : goal.join_cells-requires
join_cells-requires c =
    neighbours_ascend c.args.self.now c.args.right c.self.inside.cells.entries c.right.inside.cells.entries (ap (λ z. z.cells) c.self.view_is) (ap (λ z. z.cells) c.right.view_is) c.requires.fits c.requires.next

pub reach-requires-clause-above : goal.reach-requires-clause-above
reach-requires-clause-above c =
    start_below_end c.args.self.now c.args.right c.self.inside.info c.right.inside.info (ap (λ z. z.info) c.self.view_is) (ap (λ z. z.info) c.right.view_is) c.requires.fits c.requires.next
