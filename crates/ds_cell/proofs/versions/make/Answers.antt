use Rattle.std.proofs.Common.{rules, ◌≡◌, subst, sym}
use Rattle.ds_cell.specs.Change.{made}
use Rattle.ds_cell.specs.Content.{Rises, stamp_of}
use Rattle.ds_cell.proofs.RisingFacts.{rises_made}
use Rattle.ds_cell.proofs.versions.make.Goals as goal

pub returns-clause-rises : goal.returns-clause-rises
returns-clause-rises c =
    let e : c.insert.new.self.items ≡ made c.args.versions.now.items c.args.version = search rules in
    subst (λ xs. Rises stamp_of xs) (sym e) (rises_made _ _ c.requires)
