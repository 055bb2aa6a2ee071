use Rattle.std.proofs.Common.{rules, ◌≡◌, ◌∙◌}
use Rattle.std.specs.BTreeMap.{insert_entry}
use Rattle.ds_base.specs.Order.{key_cmp}
use Rattle.ds_range.proofs.Copying.{put-last}
use Rattle.ds_range.proofs.copy.put_last.Goals as goal

pub returns : goal.returns
returns c =
    let now : c.insert.new.self.entries ≡ insert_entry key_cmp c.args.cells.now.entries c.args.key c.args.cell = search rules in
    now ∙ put-last c.args.key c.args.cell c.args.cells.now.entries c.requires
