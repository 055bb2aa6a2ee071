use Rattle.std.proofs.Common.{sym, ◌∙◌}
use Rattle.ds_kind.specs.Reach.{reach_of_bounds}
use Rattle.ds_cut.proofs.Seeking.{first-yes, first-no}
use Rattle.ds_cut.proofs.seek.first_of.Goals as goal

pub returns-then-comes_first-clause-near : goal.returns-then-comes_first-clause-near
returns-then-comes_first-clause-near c =
    first-yes c.args.dir (reach_of_bounds c.args.one) (reach_of_bounds c.args.other) (sym c.comes_first.ensures ∙ c.if-comes_first.true)

pub returns-else-comes_first-clause-near : goal.returns-else-comes_first-clause-near
returns-else-comes_first-clause-near c =
    first-no c.args.dir (reach_of_bounds c.args.one) (reach_of_bounds c.args.other) (sym c.comes_first.ensures ∙ c.if-comes_first.false)
