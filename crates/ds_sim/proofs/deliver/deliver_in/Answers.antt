use Rattle.std.proofs.Common.{IfOk, subst}
use Rattle.ds_rule.specs.declared.journal.JournalStep.TheVariants.{Send}
use Rattle.ds_sim.specs.UnderWay.{Notes, under_way}
use Rattle.ds_sim.proofs.UnderWay.{notes}
use Rattle.ds_sim.proofs.deliver.deliver_in.Goals as goal

pub returns-clause-notes : goal.returns-clause-notes
returns-clause-notes c =
    let b = c.block.inside in
    subst (λ u. IfOk c.deliver.result (λ a. Notes (Send c.args.node c.args.piece.now a) u (under_way b.made b.events c.deliver.new.steps.items b.floor.0 b.count))) c.block.view_is
    (notes (λ a. Send c.args.node c.args.piece.now a) c.deliver.result b.made b.events b.steps.items c.deliver.new.steps.items b.floor.0 b.count c.deliver.ensures.steps c.block.invariant.0)
