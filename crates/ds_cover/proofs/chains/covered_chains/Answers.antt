use Rattle.ds_cover.proofs.Covering.{covered-chain}
use Rattle.ds_cover.proofs.chains.covered_chains.Goals as goal

pub returns : goal.returns
returns c = covered-chain
