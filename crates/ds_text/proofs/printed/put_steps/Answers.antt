use Rattle.std.proofs.Common.{◌+◌, [], ◌∷◌, ◌++◌, string_bytes, sym, ap, ◌∙◌, subst}
use Rattle.serde_json.specs.Read.{max_depth}
use Rattle.ds_text.specs.Lines.{step_data}
use Rattle.ds_text.specs.Log.{steps_objects}
use Rattle.ds_text.specs.Prints.{Prints, Plain}
use Rattle.ds_text.proofs.PlainForms.{step_plain}
use Rattle.ds_text.proofs.Printing.{prints_then, steps_more}
use Rattle.ds_text.proofs.printed.put_steps.Goals as goal

pub put_line-requires : goal.put_line-requires
put_line-requires c = subst (Plain max_depth) (sym c.in_ok-json.ensures) (step_plain c.args.line (c.loop-index.index + 1) c.index-steps-index.result)

pub loop-index-preserved : goal.loop-index-preserved
loop-index-preserved c =
    let line = c.args.line in
    let i = c.loop-index.index in
    let step = c.index-steps-index.result in
    let so_far = steps_objects line _ in
    let this = c.in_ok-json.ensures ∙ ap (step_data line (i + 1)) c.index-steps-index.is in
    let more = ap (λ d. so_far ++ d ∷ []) this ∙ sym (steps_more line c.args.steps.now i step c.loop-index-test.true) in
    subst (λ ds. Prints (string_bytes c.args.out.now) ds (string_bytes c.put_line.new.out)) more (prints_then so_far _ c.loop-index.invariant c.in_ok-put_line.ensures)
