use Rattle.std.proofs.Common.{rules, ◌≡◌, Some, subst, sym}
use Rattle.std.specs.Map.{lookup}
use Rattle.std.specs.BTreeMap.{is_at}
use Rattle.ds_base.specs.Order.{key_cmp}
use Rattle.ds_cell.specs.Change.{after_foreign}
use Rattle.ds_range.specs.Covers.{Covers}
use Rattle.ds_range.proofs.Covering.{covers_there, foreign_leaves}
use Rattle.ds_range.proofs.Maps.{changed_ok, changed_err, ascends_of}
use Rattle.ds_range.proofs.change.foreign_at.Goals as goal

pub returns-in-Some-clause-ok : goal.returns-in-Some-clause-ok
returns-in-Some-clause-ok c =
    let there : lookup (is_at (key_cmp c.args.key.now)) c.args.cells.now.entries ≡ Some c.in-Some.cell.now = search rules in
    let w = c.get_mut.follows.holds c.foreign.new.self in
    changed_ok c.args.key.now (after_foreign (record { stamp = c.args.stamp; value = c.args.value })) c.args.cells.now.entries (c.get_mut.follows.lender c.foreign.new.self).entries c.in-Some.cell.now c.foreign.new.self c.foreign.result (ascends_of _ c.get_mut.ensures.ordered) there c.foreign.ensures.ok w.0

pub returns-in-Some-clause-err : goal.returns-in-Some-clause-err
returns-in-Some-clause-err c =
    let there : lookup (is_at (key_cmp c.args.key.now)) c.args.cells.now.entries ≡ Some c.in-Some.cell.now = search rules in
    let w = c.get_mut.follows.holds c.foreign.new.self in
    changed_err c.args.key.now c.args.cells.now.entries (c.get_mut.follows.lender c.foreign.new.self).entries c.in-Some.cell.now c.foreign.new.self c.foreign.result there c.foreign.ensures.err w.0

pub returns-in-Some-clause-covers : goal.returns-in-Some-clause-covers
returns-in-Some-clause-covers c =
    let there : lookup (is_at (key_cmp c.args.key.now)) c.args.cells.now.entries ≡ Some c.in-Some.cell.now = search rules in
    let w = c.get_mut.follows.holds c.foreign.new.self in
    let same = foreign_leaves (record { stamp = c.args.stamp; value = c.args.value }) c.in-Some.cell.now c.foreign.new.self c.foreign.result c.foreign.ensures.ok c.foreign.ensures.err in
    covers_there c.args.key.now c.in-Some.cell.now c.foreign.new.self c.args.cells.now.entries (c.get_mut.follows.lender c.foreign.new.self).entries there same w.0

pub returns-clause-covers : goal.returns-clause-covers
returns-clause-covers c = λ ks h.
    let same : c.get_mut.follows.lender-at-none.entries ≡ c.args.cells.now.entries = search rules in
    c.begin_foreign.ensures.covers ks (subst (Covers ks) (sym same) h)
