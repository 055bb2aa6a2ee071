use Rattle.std.proofs.Common.{◌≡◌, Some, IfOk, rules, subst}
use Rattle.std.specs.Map.{lookup}
use Rattle.std.specs.BTreeMap.{is_at}
use Rattle.ds_base.specs.Order.{key_cmp}
use Rattle.ds_cell.specs.Requests.{deed_of}
use Rattle.ds_range.proofs.Maps.{content_some}
use Rattle.ds_range.proofs.ask.decide_at.Goals as goal

pub returns-in-Some : goal.returns-in-Some
returns-in-Some c =
    let there : lookup (is_at (key_cmp c.args.key.now)) c.args.cells.now.entries ≡ Some c.in-Some.cell.now = search rules in
    subst (λ z. IfOk c.decide_request.result (λ v. v ≡ deed_of c.args.request.now c.args.at z)) (content_some c.args.key.now c.args.cells.now.entries c.in-Some.cell.now there) c.decide_request.ensures
