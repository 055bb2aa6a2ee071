use Rattle.std.proofs.Common.{◌≡◌, ◌<◌, ◌+◌, ◌≤◌, ◌^◌, length, true, ap, ◌∙◌, subst, sym, arith}
use Rattle.ds_sim.specs.UnderWay.{is_due, next_number, passed, under_way}
use Rattle.ds_sim.proofs.UnderWay.{pass-fits, pass-is, pass-kept, pass-within}
use Rattle.ds_sim.proofs.block.BlockState.pass.Goals as goal

pub overflow_add-self : goal.overflow_add-self
overflow_add-self c =
    let b = c.self.inside in
    let due : is_due (under_way c.self.inside.made c.self.inside.events c.self.inside.steps.items c.self.inside.floor.0 c.self.inside.count) ≡ true = subst (λ u. is_due u ≡ true) (sym c.self.view_is) c.requires in
    let low : c.self.inside.made + 1 ≤ length c.self.inside.events = pass-within b.made b.events (next_number b.steps.items) due in
    omega arith

pub overflow_add-self-2 : goal.overflow_add-self-2
overflow_add-self-2 c =
    let b = c.self.inside in
    let fits : c.self.inside.count + 1 < 2 ^ 64 = pass-fits b.made b.events b.steps.items b.floor.0 b.count c.self.invariant.0 (subst (λ u. is_due u ≡ true) (sym c.self.view_is) c.requires) in
    omega arith

pub invariant_of-self : goal.invariant_of-self
invariant_of-self c =
    let b = c.self.inside in
    let due = subst (λ u. is_due u ≡ true) (sym c.self.view_is) c.requires in
    (pass-kept b.made b.events b.steps.items b.floor.0 b.count c.self.invariant.0 due, pass-within b.made b.events (next_number b.steps.items) due)

pub returns : goal.returns
returns c =
    let b = c.self.inside in
    pass-is b.made b.events b.steps.items b.floor.0 b.count (subst (λ u. is_due u ≡ true) (sym c.self.view_is) c.requires) ∙ ap passed c.self.view_is
