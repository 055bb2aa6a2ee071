use Rattle.ds_serve.proofs.Limits.{span_to}
use Rattle.ds_serve.proofs.limit.share_down.Goals as goal

pub cut_item-requires-clause-to : goal.cut_item-requires-clause-to
cut_item-requires-clause-to c = span_to c.args.item.now.request c.args.start.now c.args.end.now c.requires.reach
