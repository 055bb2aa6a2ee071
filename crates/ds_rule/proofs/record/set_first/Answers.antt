use Rattle.std.proofs.Common.{rules, ◌≡◌, ◌==◌, Some, None, position}
use Rattle.ds_rule.specs.Records.{with_status}
use Rattle.ds_rule.proofs.Numbered.{changed, unchanged}
use Rattle.ds_rule.proofs.record.set_first.Goals as goal

pub returns-in-Some : goal.returns-in-Some
returns-in-Some c =
    let here : Some c.in-Some.at ≡ position (λ t. t.txn.0 == c.args.number.0) c.args.items.now.items = search rules in
    changed c.args.number.0 (with_status c.args.status) c.args.items.now.items c.in-Some.at c.index_mut-found.result.now here c.index_mut-found.ensures.value

pub returns-in-None : goal.returns-in-None
returns-in-None c =
    let none : None ≡ position (λ t. t.txn.0 == c.args.number.0) c.args.items.now.items = search rules in
    unchanged c.args.number.0 (with_status c.args.status) c.args.items.now.items none
