use Rattle.ds_cover.proofs.Cutting.{seek-near}
use Rattle.ds_cover.proofs.Measuring.{keeps-left}
use Rattle.ds_cover.proofs.blocks.keeps_left.Goals as goal

pub returns : goal.returns
returns c = λ d span s block is keys sought in_it. keeps-left d span block is keys (seek-near d span s block sought in_it)
