use Rattle.std.proofs.Common.{rules, ◌≡◌, None, position}
use Rattle.ds_rule.specs.World.{answers_lookup}
use Rattle.ds_sim.proofs.Looking.{armed-first-ok, armed-looks, up-looks}
use Rattle.ds_sim.proofs.sim.Sim.look_now.Goals as goal

pub returns-in-Some-clause-rows : goal.returns-in-Some-clause-rows
returns-in-Some-clause-rows c = armed-first-ok c.args.key.now c.args.dir c.args.self.now.armed.items c.look_armed.new.armed.items c.look_armed.result c.look_armed.ensures.looks

pub returns-in-Some-clause-looked : goal.returns-in-Some-clause-looked
returns-in-Some-clause-looked c =
    let s = c.args.self.now in
    armed-looks c.args.key.now c.args.dir s.ranges s.armed.items c.look_armed.new.armed.items s.records s.block c.look_armed.new.block s.refused s.picks.items c.look_armed.result
    c.look_armed.ensures.looks c.requires.ahead c.look_armed.ensures.notes c.look_armed.ensures.err c.look_armed.ensures.err_block

pub returns-in-None-clause-looked : goal.returns-in-None-clause-looked
returns-in-None-clause-looked c =
    let s = c.args.self.now in
    let none : position (answers_lookup c.args.dir c.args.key.now) c.args.self.now.armed.items ≡ None = search rules in
    up-looks c.args.key.now c.args.dir s.ranges s.armed.items s.records s.block c.look_up.new.block s.refused s.picks.items c.look_up.result none
    c.look_up.ensures.looks c.requires.ahead c.look_up.ensures.notes c.look_up.ensures.err_block
