use Rattle.std.proofs.Common.{rules, ◌≡◌, ◌+◌, length, nat_le, sym, ap, ◌∙◌}
use Rattle.std.specs.Option.{option_copied}
use Rattle.ds_sim.specs.UnderWay.{is_due, next_number}
use Rattle.ds_sim.proofs.UnderWay.{due-none, due-some}
use Rattle.ds_sim.proofs.block.BlockState.is_due.Goals as goal

pub returns-in-Some : goal.returns-in-Some
returns-in-Some c =
    let b = c.self.inside in
    let long : c.len.result ≡ length c.self.inside.steps.items = search rules in
    ap (λ n. nat_le c.in-Some.next.now.at (1 + n)) long
    ∙ due-some b.made b.events (next_number b.steps.items) c.in-Some.next.now (sym c.get.ensures ∙ ap option_copied c.in-Some.is) ∙ ap is_due c.self.view_is

pub returns-in-None : goal.returns-in-None
returns-in-None c = let b = c.self.inside in due-none b.made b.events (next_number b.steps.items) (sym c.get.ensures ∙ ap option_copied c.in-None.is) ∙ ap is_due c.self.view_is
