use Rattle.std.proofs.Common.{rules, not, sym, subst}
use Rattle.std.proofs.lemmas.Fn.{filter_same}
use Rattle.ds_cell.specs.Content.{Rises, stamp_of}
use Rattle.ds_cell.specs.Taken.{is_among}
use Rattle.ds_cell.proofs.RisingFacts.{rises-filter}
use Rattle.ds_cell.proofs.versions.remove_versions.Goals as goal

pub returns-clause-without : goal.returns-clause-without
returns-clause-without c =
    filter_same _ (λ v. not (is_among c.args.stamps.now v)) _ (λ x b q k. search rules) _ _ c.retain.ensures.filtered

pub returns-clause-rises : goal.returns-clause-rises
returns-clause-rises c = λ r.
    subst (Rises stamp_of) (sym (returns-clause-without c)) (rises-filter stamp_of (λ v. not (is_among c.args.stamps.now v)) c.args.versions.now.items r)
