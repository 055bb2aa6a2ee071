use Rattle.std.proofs.Common.{◌≡◌, ◌∷◌, ◌++◌, option_to_list, ap, ◌∙◌}
use Rattle.ds_sim.specs.State.{stands_for, world_of}
use Rattle.ds_sim.proofs.Picking.{first-picked, later-picked, none-later, none-picked}
use Rattle.ds_sim.proofs.sim.SimWire.pick.Goals as goal

pub returns-in-Some-clause-picked : goal.returns-in-Some-clause-picked
returns-in-Some-clause-picked c =
    first-picked c.args.self.now.picks.items c.pop_front.new.self.items c.in-Some.pick c.args.waiting (c.pop_front.ensures.items ∙ ap (λ o. option_to_list o ++ c.pop_front.new.self.items) c.in-Some.is)

pub returns-in-Some-clause-rest : goal.returns-in-Some-clause-rest
returns-in-Some-clause-rest c =
    let s = c.args.self.now in
    ap (stands_for (world_of s.ranges s.armed.items s.records s.block.count) s.block s.refused)
    (later-picked c.args.self.now.picks.items c.pop_front.new.self.items c.in-Some.pick (c.pop_front.ensures.items ∙ ap (λ o. option_to_list o ++ c.pop_front.new.self.items) c.in-Some.is))

pub returns-in-None-clause-picked : goal.returns-in-None-clause-picked
returns-in-None-clause-picked c =
    none-picked c.args.self.now.picks.items c.pop_front.new.self.items c.args.waiting (c.pop_front.ensures.items ∙ ap (λ o. option_to_list o ++ c.pop_front.new.self.items) c.in-None.is) c.pop_front.ensures.rest

pub returns-in-None-clause-rest : goal.returns-in-None-clause-rest
returns-in-None-clause-rest c =
    let s = c.args.self.now in
    ap (stands_for (world_of s.ranges s.armed.items s.records s.block.count) s.block s.refused)
    (none-later c.args.self.now.picks.items c.pop_front.new.self.items (c.pop_front.ensures.items ∙ ap (λ o. option_to_list o ++ c.pop_front.new.self.items) c.in-None.is) c.pop_front.ensures.rest)
