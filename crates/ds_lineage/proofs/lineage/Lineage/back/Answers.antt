use Rattle.std.proofs.Common.{sym, ◌∙◌}
use Rattle.ds_lineage.proofs.Walks.{walk-first, walk-more, walk-none, walk-end}
use Rattle.ds_lineage.proofs.lineage.Lineage.back.Goals as goal

pub loop-step-init : goal.loop-step-init
loop-step-init c = walk-first c.args.self.now c.args.key.now c.args.b c.args.i c.requires

pub returns-in-None : goal.returns-in-None
returns-in-None c =
    sym (walk-none c.args.self.now c.args.key.now c.args.b c.loop-step.step c.loop-step.at c.loop-step-test.true c.loop-step.invariant c.in-None.ensures)

pub loop-step-preserved : goal.loop-step-preserved
loop-step-preserved c =
    walk-more c.args.self.now c.args.key.now c.args.b c.loop-step.step c.loop-step.at c.in-Some.place c.loop-step-test.true c.loop-step.invariant c.in-Some.ensures

pub returns : goal.returns
returns c =
    c.get.ensures ∙ sym (walk-end c.args.self.now c.args.key.now c.args.b c.loop-step.step c.loop-step.at c.loop-step-test.false c.loop-step.invariant)
