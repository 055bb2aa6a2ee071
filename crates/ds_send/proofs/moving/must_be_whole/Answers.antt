use Rattle.std.proofs.Common.{◌≡◌, true, false, is_some, ap, ◌∙◌, rules}
use Rattle.std.specs.List.{list_any}
use Rattle.ds_kind.specs.Asks.{flags_at}
use Rattle.ds_rule.specs.Asking.{Asking}
use Rattle.ds_send.proofs.Moved.{whole-by}
use Rattle.ds_send.proofs.moving.must_be_whole.Goals as goal

pub returns : goal.returns
returns c =
    let consistent : c.args.asked.now.consistent ≡ true = search rules in
    let alone : is_some c.args.asked.now.head.txn ≡ false = search rules in
    whole-by c.args.asked.now c.any_transactional.result consistent alone (c.any_transactional.ensures ∙ ap (λ (q : Asking). list_any (λ i. (flags_at i.request).txn) q.items) c.asked.view_is)
