use Rattle.ds_serve.proofs.Limits.{below_next, span_from}
use Rattle.ds_serve.proofs.limit.share_up.Goals as goal

pub cut_item-requires-clause-some : goal.cut_item-requires-clause-some
cut_item-requires-clause-some c = below_next c.args.start.now c.args.end.now c.args.last.now c.in_ok-next.next c.in_ok-next.ensures c.requires.inside

pub cut_item-requires-clause-from : goal.cut_item-requires-clause-from
cut_item-requires-clause-from c = span_from c.args.item.now.request c.args.start.now c.args.end.now c.requires.reach
