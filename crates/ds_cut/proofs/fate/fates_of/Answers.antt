use Rattle.std.proofs.Common.{rules, ◌≡◌, ◌+◌, ◌++◌, ◌∷◌, [], take, drop, sym, subst}
use Rattle.std.proofs.lemmas.List.{take_more, drop_more}
use Rattle.ds_base.proofs.SmallFacts.{and_second}
use Rattle.ds_kind.specs.Asks.{has_proper_span}
use Rattle.ds_cover.specs.Items.{AreProper}
use Rattle.ds_cut.specs.Fates.{AreFates}
use Rattle.ds_cut.proofs.Parting.{fates_more}
use Rattle.ds_cut.proofs.fate.fates_of.Goals as goal

pub items-preserved : goal.items-preserved
items-preserved c =
    let more : take (c.items.item-index + 1) c.args.items.now ≡ take c.items.item-index c.args.items.now ++ c.item-item.result ∷ [] = search (rules, take_more) in
    let step : drop c.items.item-index c.args.items.now ≡ c.item-item.result ∷ drop (c.items.item-index + 1) c.args.items.now = search (rules, drop_more) in
    let put : c.put.new.fates.items ≡ c.items.fates.items ++ c.in_ok-fate_of.field-0 ∷ [] = search rules in
    record {
      made = subst (λ l. AreFates c.args.dir c.args.span.now l c.put.new.fates.items) (sym more) (subst (AreFates c.args.dir c.args.span.now _) (sym put) (fates_more c.args.dir c.args.span.now _ _ _ _ c.items.invariant.made c.in_ok-fate_of.ensures));
      proper = and_second (has_proper_span c.item-item.result.request) _ (subst AreProper step c.items.invariant.proper);
    }
