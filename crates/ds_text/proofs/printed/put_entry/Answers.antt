use Rattle.std.proofs.Common.{[], ◌∷◌, ◌++◌, string_bytes, sym, ap, ◌∙◌, subst}
use Rattle.std.proofs.lemmas.Result.{on_ok_weaker}
use Rattle.serde_json.specs.Read.{max_depth}
use Rattle.ds_text.specs.Log.{steps_objects, objects_of}
use Rattle.ds_text.specs.Prints.{Prints, Plain}
use Rattle.ds_text.proofs.PlainForms.{answer_line_plain}
use Rattle.ds_text.proofs.Printing.{prints_then}
use Rattle.ds_text.proofs.printed.put_entry.Goals as goal

pub put_line-requires : goal.put_line-requires
put_line-requires c = subst (Plain max_depth) (sym c.in_ok-answer_object-in-Batch.ensures) (answer_line_plain c.in-Batch.line c.in-Batch.outcome)

pub returns-in_ok-answer_object-in-Batch : goal.returns-in_ok-answer_object-in-Batch
returns-in_ok-answer_object-in-Batch c =
    let steps = steps_objects c.in-Batch.line c.in-Batch.steps in
    let old = string_bytes c.args.out.now in
    let printed = subst (λ xs. Prints old (steps_objects c.in-Batch.line xs) (string_bytes c.put_steps.new.out)) c.as_slice.ensures c.in_ok-put_steps-in-Batch.ensures in
    let whole = ap (λ d. steps ++ d ∷ []) c.in_ok-answer_object-in-Batch.ensures ∙ sym (ap objects_of c.in-Batch.is) in
    on_ok_weaker c.put_line.result (λ one. subst (λ ds. Prints old ds (string_bytes c.put_line.new.out)) whole (prints_then steps _ printed one)) c.put_line.ensures
