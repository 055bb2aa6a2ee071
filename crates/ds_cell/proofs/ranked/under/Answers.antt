use Rattle.std.proofs.Common.{sym, ◌∙◌}
use Rattle.ds_cell.proofs.Ranks.{under_same, under_other, under_none}
use Rattle.ds_cell.proofs.ranked.under.Goals as goal

pub returns-then-rank-n : goal.returns-then-rank-n
returns-then-rank-n g c =
    under_same g.T.Ranked.rank c.args.n c.args.items.now c.in-Some.x.now c.requires c.in-Some.ensures (sym c.rank.ensures ∙ c.if-rank-n.true)

pub returns-else-rank-n : goal.returns-else-rank-n
returns-else-rank-n g c =
    under_other g.T.Ranked.rank c.args.n c.args.items.now c.in-Some.x.now c.requires c.in-Some.ensures (λ same. c.if-rank-n.false (c.rank.ensures ∙ same))

pub returns-in-None : goal.returns-in-None
returns-in-None g c =
    under_none g.T.Ranked.rank c.args.n c.args.items.now c.requires c.in-None.ensures
