use Rattle.std.proofs.Common.{[], arith}
use Rattle.ds_rule.proofs.Routes.{least}
use Rattle.ds_ranges.proofs.Finding.{first-held, none-held}
use Rattle.ds_ranges.proofs.find.place_of.Goals as goal

pub returns-then-at-ranges-clause-place : goal.returns-then-at-ranges-clause-place
returns-then-at-ranges-clause-place c =
    first-held c.args.key.now [] c.args.ranges.now c.ended_by-at.result c.requires (least c.args.key.now) c.ended_by-at.ensures.point (omega arith)

pub returns-else-at-ranges-clause-place : goal.returns-else-at-ranges-clause-place
returns-else-at-ranges-clause-place c =
    none-held c.args.key.now c.args.ranges.now c.ended_by-at.result c.ended_by-at.ensures.point (omega arith)
