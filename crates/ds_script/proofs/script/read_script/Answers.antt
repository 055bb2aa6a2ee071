use Rattle.std.proofs.Common.{◌≡◌, ◌≤◌, false, true, sym, ◌∙◌, arith}
use Rattle.ds_script.specs.Rules.{start}
use Rattle.ds_script.specs.Script.{numbered}
use Rattle.ds_script.specs.Split.{is_blank}
use Rattle.ds_script.proofs.Walks.{read_some, read_blank, walk_push, rise_push, last_push}
use Rattle.ds_script.proofs.script.read_script.Goals as goal
use Rattle.ds_script.proofs.script.read_script.Goals.{then-not-is_blank+in_ok-line+in_ok-push, else-not-is_blank}

pub lines-preserved : goal.lines-preserved
lines-preserved c =
    let number = c.lines.number in
    let earlier = c.lines.found in
    let bytes = c.first_line.result.0.now in
    let known = c.lines.state in
    let few : number ≤ 20000 = omega arith in
    let before = c.lines.invariant in
    let so_far = rw c.first_line.ensures.lines at before.read in
    elim c.if-not-is_blank.branch [
      | then-not-is_blank+in_ok-line+in_ok-push w ↦
          let line = numbered number w.in_ok-line.line in
          let next = w.in_ok-line.ensures in
          let found = w.found-is ∙ w.in_ok-push.ensures.ok in
          let some : is_blank bytes ≡ false = sym w.if-not-is_blank.ensures in
          record {
            read = rw (found, w.state-is) (read_some earlier number known _ bytes _ _ _ few some next.read so_far);
            few = omega arith;
            walked = rw (found, w.state-is) (walk_push earlier line start known _ before.walked next.judged);
            rising = rw found (rise_push 0 earlier line before.rising before.below few);
            below = rw (found, last_push 0 earlier line) (omega arith);
          }
      | else-not-is_blank w ↦
          let blank : is_blank bytes ≡ true = sym w.if-not-is_blank.ensures in
          record {
            read = rw (w.found-is, w.state-is) (read_blank earlier number known bytes _ _ few blank so_far);
            few = omega arith;
            walked = rw (w.found-is, w.state-is) before.walked;
            rising = rw w.found-is before.rising;
            below = rw w.found-is (omega arith);
          }
    ]
