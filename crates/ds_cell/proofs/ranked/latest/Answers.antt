use Rattle.std.proofs.Common.{rules, ◌≡◌, ◌≤◌, ◌∙◌}
use Rattle.ds_cell.proofs.Ranks.{latest_none, latest_some}
use Rattle.ds_cell.proofs.ranked.latest.Goals as goal

pub returns-then-count-eq0 : goal.returns-then-count-eq0
returns-then-count-eq0 g c =
    let none : c.count_up_to-count.result ≡ 0 = search rules in
    latest_none g.T.Ranked.rank c.args.n c.args.items.now c.count_up_to-count.result c.requires c.count_up_to-count.ensures.place none

pub returns-else-count-eq0 : goal.returns-else-count-eq0
returns-else-count-eq0 g c =
    let some : 1 ≤ c.count_up_to-count.result = search rules in
    c.nth.ensures ∙ latest_some g.T.Ranked.rank c.args.n c.args.items.now c.count_up_to-count.result c.requires c.count_up_to-count.ensures.place some
