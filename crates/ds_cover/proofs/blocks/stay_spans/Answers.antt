use Rattle.ds_cover.proofs.Lessening.{cut_items-spans, rest_items-spans}
use Rattle.ds_cover.proofs.blocks.stay_spans.Goals as goal

pub returns : goal.returns
returns c d span items keys all = (cut_items-spans span items keys all, rest_items-spans d span items keys all)
