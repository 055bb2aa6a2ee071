use Rattle.ds_legal.proofs.GroupFacts.{finds_first}
use Rattle.ds_legal.proofs.firsts.first_is_least.Goals as goal

pub returns : goal.returns
returns c = λ test requests. finds_first test requests
