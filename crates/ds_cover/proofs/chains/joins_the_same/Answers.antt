use Rattle.ds_cover.proofs.Chaining.{same-join}
use Rattle.ds_cover.proofs.chains.joins_the_same.Goals as goal
use Rattle.ds_cover.specs.Arrivals.{span_at}

pub returns : goal.returns
returns c = same-join span_at (λ p. p.1)
