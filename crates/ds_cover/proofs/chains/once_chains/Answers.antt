use Rattle.ds_cover.proofs.Chaining.{once-chain}
use Rattle.ds_cover.proofs.chains.once_chains.Goals as goal

pub returns : goal.returns
returns c = once-chain (λ x. x)
