use Rattle.std.proofs.Common.{◌≡◌, ◌++◌, ap, ◌∙◌, drop, subst}
use Rattle.std.proofs.lemmas.List.{take_rest}
use Rattle.ds_rule.specs.Blocks.{all_made, woven}
use Rattle.ds_sim.specs.UnderWay.{under_way}
use Rattle.ds_sim.proofs.UnderWay.{left-after, left-after-so}
use Rattle.ds_sim.proofs.block.BlockState.coming.Goals as goal

pub returns-clause-after : goal.returns-clause-after
returns-clause-after c =
    let b = c.self.inside in
    left-after-so c.args.self.now _ (take_rest c.as_slice.result.now b.made ∙ ap (drop b.made) c.as_slice.ensures ∙ ap (λ u. u.coming) c.self.view_is)
    (subst (λ u. woven 1 (u.made ++ u.coming) u.steps ≡ woven 1 u.made u.steps ++ all_made u.coming) c.self.view_is (left-after (under_way b.made b.events b.steps.items b.floor.0 b.count) c.self.invariant.0))
