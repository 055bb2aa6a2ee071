use Rattle.std.proofs.Common.{rules, ◌≡◌, ap, subst, sym, ◌∙◌}
use Rattle.ds_cell.specs.Change.{with_write}
use Rattle.ds_cell.specs.Content.{Rises, seq_of}
use Rattle.ds_cell.specs.Taken.{without_write}
use Rattle.ds_cell.proofs.RisingFacts.{rises_write}
use Rattle.ds_cell.proofs.TakenFacts.{without_added}
use Rattle.ds_cell.proofs.history.add_write.Goals as goal

pub returns-clause-back : goal.returns-clause-back
returns-clause-back c =
    let e : c.insert.new.self.items ≡ with_write c.args.written c.args.history.now.items = search rules in
    ap (without_write c.args.written.seq.0) e ∙ without_added c.args.history.now.items c.args.written c.requires.free

pub returns-clause-rises : goal.returns-clause-rises
returns-clause-rises c =
    let e : c.insert.new.self.items ≡ with_write c.args.written c.args.history.now.items = search rules in
    subst (Rises seq_of) (sym e) (rises_write c.args.history.now.items c.args.written c.requires.free c.requires.rises)
