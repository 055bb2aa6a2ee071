use Rattle.std.proofs.Common.{◌<◌, ◌++◌, ◌∷◌, [], ap, ◌∙◌, length, arith}
use Rattle.ds_rule.specs.World.{in_order}
use Rattle.ds_ranges.proofs.RowLists.{ordered-long, row-more}
use Rattle.ds_ranges.proofs.rows.first_rows.Goals as goal

pub rows-preserved : goal.rows-preserved
rows-preserved c =
    let xs = in_order c.args.dir c.args.ranges.now in
    let rows = c.rows.rows in
    let low : c.rows.i < length (in_order c.args.dir c.args.ranges.now) = omega (arith, c.rows-test.true, c.min-i-end.ensures, ordered-long c.args.dir c.args.ranges.now) in
    row-more (λ r. r.info) xs c.rows.i c.nth.result.now rows c.push.new.self c.nth.ensures low c.rows.invariant
    (c.in_ok-push.ensures.ok ∙ ap (λ z. rows ++ z ∷ []) (c.in_ok-copy.ensures ∙ c.info.ensures))
