use Rattle.std.proofs.Common.{rules, ◌≡◌, Some, None, ◌∙◌}
use Rattle.std.specs.Map.{lookup}
use Rattle.std.specs.BTreeMap.{is_at}
use Rattle.ds_base.specs.Order.{key_cmp}
use Rattle.ds_range.proofs.Covering.{one_settled, one_missing}
use Rattle.ds_range.proofs.Maps.{changed_err, ascends_of}
use Rattle.ds_range.proofs.settle.settle_at.Goals as goal

pub returns-in-Some-clause-ok : goal.returns-in-Some-clause-ok
returns-in-Some-clause-ok c =
    let there : lookup (is_at (key_cmp c.args.key.now)) c.args.cells.now.entries ≡ Some c.in-Some.cell.now = search rules in
    let w = c.get_mut.follows.holds c.settle.new.self in
    one_settled c.args.txn.0 c.args.commit c.args.key.now c.in-Some.cell.now c.settle.new.self c.args.cells.now.entries (c.get_mut.follows.lender c.settle.new.self).entries c.settle.result (ascends_of _ c.get_mut.ensures.ordered) there c.settle.ensures.ok w.0

pub returns-in-Some-clause-err : goal.returns-in-Some-clause-err
returns-in-Some-clause-err c =
    let there : lookup (is_at (key_cmp c.args.key.now)) c.args.cells.now.entries ≡ Some c.in-Some.cell.now = search rules in
    let w = c.get_mut.follows.holds c.settle.new.self in
    changed_err c.args.key.now c.args.cells.now.entries (c.get_mut.follows.lender c.settle.new.self).entries c.in-Some.cell.now c.settle.new.self c.settle.result there c.settle.ensures.err w.0

pub returns-in-None-clause-ok : goal.returns-in-None-clause-ok
returns-in-None-clause-ok c =
    let same : c.get_mut.follows.lender-at-none.entries ≡ c.args.cells.now.entries = search rules in
    let none : lookup (is_at (key_cmp c.args.key.now)) c.args.cells.now.entries ≡ None = search rules in
    same ∙ one_missing c.args.txn.0 c.args.commit c.args.key.now c.args.cells.now.entries none
