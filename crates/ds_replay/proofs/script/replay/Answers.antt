use Rattle.std.proofs.Common.{◌+◌, refl, ap, ◌∙◌, subst, take, drop}
use Rattle.ds_replay.specs.Taken.{Taken}
use Rattle.ds_replay.proofs.Scripts.{here, next-lines, replay-built, replay-first, replay-more}
use Rattle.ds_replay.proofs.script.replay.Goals as goal

pub lines-init : goal.lines-init
lines-init c = rw (c.as_slice-numbered-items.ensures, c.new-log.ensures) (replay-first c.args.script.now.lines c.args.script.now.kept c.requires, refl, ap (λ s. s.budget) c.in_ok-sender.ensures)

pub take-requires-clause-built : goal.take-requires-clause-built
take-requires-clause-built c =
    let xs = c.as_slice-numbered-items.result.now in
    let i = c.lines.numbered-index in
    let x = c.numbered-item.result in
    replay-built (take i xs) (drop (i + 1) xs) i c.lines.state c.lines.log x (here xs i x c.lines.state c.lines.log c.lines-test.true c.numbered-item.is c.lines.invariant.0)

pub lines-preserved : goal.lines-preserved
lines-preserved c =
    let xs = c.as_slice-numbered-items.result.now in
    let i = c.lines.numbered-index in
    let x = c.numbered-item.result in
    let at = here xs i x c.lines.state c.lines.log c.lines-test.true c.numbered-item.is c.lines.invariant.0 in
    let taken = subst (λ n. Taken n c.lines.state c.in_ok-state.state x c.lines.log c.take.new.log) c.lines.invariant.2 c.in_ok-state.ensures.taken in (
      next-lines xs i x c.in_ok-state.state c.take.new.log c.lines-test.true c.numbered-item.is
          (replay-more (take i xs) (drop (i + 1) xs) i c.lines.state c.in_ok-state.state c.lines.log c.take.new.log x at c.in_ok-state.ensures.stage c.in_ok-state.ensures.within taken),
      c.in_ok-state.ensures.texts,
      c.in_ok-state.ensures.kept ∙ c.lines.invariant.2,
    )
