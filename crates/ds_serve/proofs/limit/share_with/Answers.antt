use Rattle.ds_serve.proofs.Limits.{point_share}
use Rattle.ds_serve.proofs.limit.share_with.Goals as goal

pub returns-in-Point : goal.returns-in-Point
returns-in-Point c = λ h. point_share h c.args.item.now c.args.at c.args.cells.now.entries c.in-Point.field-0.now c.args.more c.in-Point.ensures
