use Rattle.std.proofs.Common.{rules, ◌≡◌, Some, ◌∙◌, ap}
use Rattle.std.specs.Map.{lookup, set_value}
use Rattle.std.specs.BTreeMap.{is_at}
use Rattle.std.proofs.lemmas.Map.Steps.{set_value_same}
use Rattle.ds_base.specs.Order.{key_cmp}
use Rattle.ds_range.proofs.Maps.{changed_there, there_back, ascends_of}
use Rattle.ds_range.proofs.change.change_at.Goals as goal

pub returns-in-Ok-clause-ok : goal.returns-in-Ok-clause-ok
returns-in-Ok-clause-ok g c =
    let there : lookup (is_at (key_cmp c.args.key.now)) c.args.cells.now.entries ≡ Some c.in-Some.cell.now = search rules in
    let w = c.get_mut.follows.holds c.change.new.cell in
    changed_there c.args.key.now (g.C.Change.after c.args.change) c.args.cells.now.entries (c.get_mut.follows.lender c.change.new.cell).entries c.in-Some.cell.now c.change.new.cell (ascends_of _ c.get_mut.ensures.ordered) there c.in-Ok.ensures.ok w.0

pub returns-in-Ok-clause-back : goal.returns-in-Ok-clause-back
returns-in-Ok-clause-back g c =
    let there : lookup (is_at (key_cmp c.args.key.now)) c.args.cells.now.entries ≡ Some c.in-Some.cell.now = search rules in
    let w = c.get_mut.follows.holds c.change.new.cell in
    there_back c.args.key.now c.in-Some.cell.now c.change.new.cell c.in-Ok.taken c.args.cells.now.entries (c.get_mut.follows.lender c.change.new.cell).entries there c.in-Ok.ensures.back w.0

pub returns-in-Err-clause-err : goal.returns-in-Err-clause-err
returns-in-Err-clause-err g c =
    let there : lookup (is_at (key_cmp c.args.key.now)) c.args.cells.now.entries ≡ Some c.in-Some.cell.now = search rules in
    let w = c.get_mut.follows.holds c.change.new.cell in
    w.0 ∙ ap (set_value (is_at (key_cmp c.args.key.now)) c.args.cells.now.entries) c.in-Err.ensures.err ∙ set_value_same (is_at (key_cmp c.args.key.now)) c.args.cells.now.entries c.in-Some.cell.now there
