use Rattle.ds_cover.proofs.Chaining.{chain-ascends, chain-once}
use Rattle.ds_cover.proofs.chains.chains_once.Goals as goal

pub returns : goal.returns
returns c = λ s e xs h. (chain-ascends (λ x. x) s e xs h, chain-once (λ x. x) s e xs h)
