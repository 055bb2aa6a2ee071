use Rattle.std.proofs.Common.{rules, ◌==◌, not, sym, subst}
use Rattle.std.proofs.lemmas.Fn.{filter_same}
use Rattle.ds_cell.specs.Content.{Rises, seq_of}
use Rattle.ds_cell.proofs.RisingFacts.{rises-filter}
use Rattle.ds_cell.proofs.history.remove_write.Goals as goal

pub returns-clause-without : goal.returns-clause-without
returns-clause-without c =
    filter_same _ (λ w. not (w.seq.0 == c.args.seq.0)) _ (λ x b q k. search rules) _ _ c.retain.ensures.filtered

pub returns-clause-rises : goal.returns-clause-rises
returns-clause-rises c = λ r.
    subst (Rises seq_of) (sym (returns-clause-without c)) (rises-filter seq_of (λ w. not (w.seq.0 == c.args.seq.0)) c.args.history.now.items r)
