use Rattle.std.proofs.Common.{sym, ap, ◌∙◌, true, refl}
use Rattle.std.specs.Option.{is_some}
use Rattle.ds_kind.specs.Parts.{may_join}
use Rattle.ds_legal.proofs.GroupFacts.{groups_split}
use Rattle.ds_legal.proofs.rules.is_split.Goals as goal

pub returns : goal.returns
returns c = c.is_some.ensures ∙ ap is_some c.first_misfit.ensures.is ∙ sym (groups_split (may_join true) c.args.requests.now (λ r. refl))
