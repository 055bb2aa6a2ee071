use Rattle.std.proofs.Common.{rules, ◌≡◌}
use Rattle.std.specs.BTreeMap.{insert_entry}
use Rattle.ds_base.specs.Order.{key_cmp}
use Rattle.ds_cell.specs.Content.{no_content}
use Rattle.ds_cell.specs.Change.{after_foreign}
use Rattle.ds_range.proofs.Covering.{begun_covers}
use Rattle.ds_range.proofs.Maps.{changed_new}
use Rattle.ds_range.proofs.change.begin_foreign.Goals as goal

pub returns-clause-ok : goal.returns-clause-ok
returns-clause-ok c =
    let made : c.foreign.new.self ≡ after_foreign (record { stamp = c.args.stamp; value = c.args.value }) no_content = search rules in
    let now : c.insert.new.self.entries ≡ insert_entry key_cmp c.args.cells.now.entries c.args.key.now c.foreign.new.self = search rules in
    changed_new c.args.key.now (after_foreign (record { stamp = c.args.stamp; value = c.args.value })) c.args.cells.now.entries c.insert.new.self.entries c.foreign.new.self c.requires made now

pub returns-clause-covers : goal.returns-clause-covers
returns-clause-covers c =
    let made : c.foreign.new.self ≡ after_foreign (record { stamp = c.args.stamp; value = c.args.value }) no_content = search rules in
    let now : c.insert.new.self.entries ≡ insert_entry key_cmp c.args.cells.now.entries c.args.key.now c.foreign.new.self = search rules in
    begun_covers c.args.key.now (record { stamp = c.args.stamp; value = c.args.value }) c.foreign.new.self c.args.cells.now.entries c.insert.new.self.entries made now
