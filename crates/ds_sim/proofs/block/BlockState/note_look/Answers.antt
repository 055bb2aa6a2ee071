use Rattle.std.proofs.Common.{OnOk, subst}
use Rattle.ds_desc.specs.declared.meta.Looked.TheVariants as Looked
use Rattle.ds_rule.specs.declared.journal.JournalStep.TheVariants.{Look}
use Rattle.ds_sim.specs.UnderWay.{Notes, under_way}
use Rattle.ds_sim.proofs.UnderWay.{if-on, notes, on-if}
use Rattle.ds_sim.proofs.block.BlockState.note_look.Goals as goal

pub returns-clause-ok : goal.returns-clause-ok
returns-clause-ok c =
    let b = c.self.inside in
    subst (λ u. OnOk c.note_look.result (Notes (Look c.args.key.now c.args.dir (Looked.Rows c.args.infos.now)) u (under_way b.made b.events c.note_look.new.steps.items b.floor.0 b.count))) c.self.view_is
    (if-on _ c.note_look.result (notes (λ x. Look c.args.key.now c.args.dir (Looked.Rows c.args.infos.now)) c.note_look.result b.made b.events b.steps.items c.note_look.new.steps.items b.floor.0 b.count (on-if _ c.note_look.result c.note_look.ensures.ok) c.self.invariant.0))
