use Rattle.std.proofs.Common.{ap, ◌∙◌}
use Rattle.ds_cell.specs.Taken.{without_stamps}
use Rattle.ds_cell.proofs.TakenFacts.{without_none}
use Rattle.ds_cell.proofs.versions.make_each.Goals as goal

pub returns-in-Ok-clause-back : goal.returns-in-Ok-clause-back
returns-in-Ok-clause-back c =
    c.make_all.ensures.back ∙ ap (λ stamps. without_stamps stamps c.args.versions.now.items) c.new-stamps.ensures ∙ without_none c.args.versions.now.items

pub returns-in-Err-clause-err : goal.returns-in-Err-clause-err
returns-in-Err-clause-err c =
    c.remove_versions.ensures.without
    ∙ c.make_all.ensures.back ∙ ap (λ stamps. without_stamps stamps c.args.versions.now.items) c.new-stamps.ensures ∙ without_none c.args.versions.now.items
