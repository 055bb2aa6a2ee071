use Rattle.std.proofs.Common.{◌≡◌, true, subst, sym, ap, ◌∙◌}
use Rattle.std.specs.Option.{option_copied}
use Rattle.ds_base.proofs.SmallFacts.{some_same}
use Rattle.ds_sim.specs.UnderWay.{IsNext, is_due}
use Rattle.ds_sim.proofs.UnderWay.{due-next}
use Rattle.ds_sim.proofs.block.BlockState.next.Goals as goal

pub returns : goal.returns
returns c =
    let b = c.self.inside in
    subst (IsNext c.in-Some.next.now.event) c.self.view_is
    (due-next b.made b.events b.steps.items b.floor.0 b.count c.in-Some.next.now.event c.self.invariant.0 (subst (λ u. is_due u ≡ true) (sym c.self.view_is) c.requires)
    (λ t at. ap (λ x. x.event) (some_same c.in-Some.next.now t (sym (sym c.get.ensures ∙ ap option_copied c.in-Some.is) ∙ at))))
