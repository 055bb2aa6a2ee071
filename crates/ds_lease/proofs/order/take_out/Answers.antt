use Rattle.std.proofs.Common.{rules, ◌≡◌, ◌==◌, Some, None, ◌∙◌, sym}
use Rattle.std.specs.List.{position}
use Rattle.ds_lease.proofs.TurnFacts.{without_at, without_absent, at_place}
use Rattle.ds_lease.proofs.order.take_out.Goals as goal

pub returns-in-Some : goal.returns-in-Some
returns-in-Some c =
    let there : position (λ n. n == c.args.node) c.args.nodes.now.items ≡ Some c.in-Some.place = search rules in
    c.remove.ensures.items ∙ without_at c.args.node c.in-Some.place c.args.nodes.now.items c.requires (at_place c.args.node c.in-Some.place c.args.nodes.now.items there)

pub returns-in_default : goal.returns-in_default
returns-in_default c =
    let none : position (λ n. n == c.args.node) c.args.nodes.now.items ≡ None = search rules in
    sym (without_absent c.args.node c.args.nodes.now.items none)
