use Rattle.ds_base.proofs.SmallFacts.{not_greater}
use Rattle.ds_ranges.proofs.RowLists.{rows-back, rows-forward}
use Rattle.ds_ranges.proofs.rows.ahead.Goals as goal

pub returns-in-Forward : goal.returns-in-Forward
returns-in-Forward c = rows-forward c.args.dir c.args.key.now c.args.ranges.now c.ended_by.result c.in-Forward.is c.requires c.ended_by.ensures.point

pub returns-in-Reverse : goal.returns-in-Reverse
returns-in-Reverse c =
    rows-back c.args.dir c.args.key.now c.args.ranges.now c.begun_below.result c.in-Reverse.is c.requires (not_greater _ c.known.ensures.low) c.begun_below.ensures.point c.begun_below.ensures.within
