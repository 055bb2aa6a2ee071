use Rattle.std.proofs.Common.{rules, ◌≡◌, ◌<◌, ◌-◌, length, arith}
use Rattle.ds_rule.specs.Records.{with_status}
use Rattle.ds_rule.proofs.Numbered.{last-changed}
use Rattle.ds_rule.proofs.record.set_last.Goals as goal

pub returns : goal.returns
returns c =
    let items = c.args.items.now.items in
    let count : c.len-count.result ≡ length items = search rules in
    let here : c.len-count.result - 1 ≡ length items - 1 = omega arith in
    let some : 0 < length items = omega arith in
    last-changed (with_status c.args.status) items (c.len-count.result - 1) c.index_mut-last.result.now here some c.index_mut-last.ensures.value
