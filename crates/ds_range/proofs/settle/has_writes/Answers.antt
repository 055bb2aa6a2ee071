use Rattle.std.proofs.Common.{rules, ◌≡◌, ◌∙◌, Some, None, ap, is_some}
use Rattle.std.specs.Map.{lookup}
use Rattle.std.specs.BTreeMap.{is_at}
use Rattle.ds_base.specs.Order.{key_cmp}
use Rattle.ds_cell.specs.Seen.{last_of}
use Rattle.ds_range.proofs.Maps.{content_some, content_none}
use Rattle.ds_range.proofs.settle.has_writes.Goals as goal

pub returns-in-Some : goal.returns-in-Some
returns-in-Some c =
    let there : lookup (is_at (key_cmp c.args.key.now)) c.args.cells.now.entries ≡ Some c.in-Some.cell.now = search rules in
    c.has_writes.ensures ∙ ap (λ z. is_some (last_of z.history)) (content_some c.args.key.now c.args.cells.now.entries c.in-Some.cell.now there)

pub returns-in-None : goal.returns-in-None
returns-in-None c =
    let none : lookup (is_at (key_cmp c.args.key.now)) c.args.cells.now.entries ≡ None = search rules in
    ap (λ z. is_some (last_of z.history)) (content_none c.args.key.now c.args.cells.now.entries none)
