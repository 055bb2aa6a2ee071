use Rattle.std.proofs.Common.{rules, ◌≡◌, Some}
use Rattle.std.specs.Map.{lookup}
use Rattle.std.specs.BTreeMap.{is_at}
use Rattle.ds_base.specs.Order.{key_cmp}
use Rattle.ds_range.proofs.Maps.{set_given}
use Rattle.ds_range.proofs.keep.put_back.Goals as goal

pub returns-in-Some-get_mut : goal.returns-in-Some-get_mut
returns-in-Some-get_mut c =
    let there : lookup (is_at (key_cmp c.args.key.now)) c.args.cells.now.entries ≡ Some c.in-Some-get_mut.cell.now = search rules in
    let w = c.get_mut.follows.holds c.give_back.new.self in
    set_given c.args.key.now c.in-Some-get_mut.cell.now c.give_back.new.self c.in-Some.taken c.args.kept c.args.cells.now.entries (c.get_mut.follows.lender c.give_back.new.self).entries c.in-Some.is there c.give_back.ensures w.0
