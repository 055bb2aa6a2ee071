use Rattle.std.proofs.Common.{◌<◌, ◌^◌, ap, ◌∙◌, arith, subst, sym}
use Rattle.ds_rule.specs.declared.journal.JournalStep.TheVariants.{Send}
use Rattle.ds_rule.specs.Clauses.{Steps}
use Rattle.ds_sim.specs.State.{stands_for, world_of}
use Rattle.ds_sim.proofs.Sending.{send_steps}
use Rattle.ds_sim.proofs.sim.Sim.send_now.Goals as goal

pub returns : goal.returns
returns c =
    let s = c.args.self.now in
    let a = c.in_ok-answer.answer in
    let new = c.deliver_in.new in
    let w = world_of s.ranges s.armed.items s.records s.block.count in
    let v = world_of new.ranges s.armed.items new.records new.block.count in
    let notes = c.in_ok-answer.ensures.notes in
    let fits : c.args.self.now.refused < 2 ^ 64 = omega arith in
    subst (λ n. Steps (stands_for w s.block s.refused s.picks.items) (stands_for v new.block n s.picks.items) (Send c.args.node c.args.piece.now a)) (sym c.refused_after-self.ensures)
    (send_steps w v s.block new.block s.refused c.args.node s.picks.items c.args.piece.now a notes (c.in_ok-answer.ensures.delivers.answer w)
    (ap (λ u. world_of new.ranges s.armed.items new.records u.count) notes.is ∙ c.in_ok-answer.ensures.delivers.after w) fits)
