use Rattle.std.proofs.Common.{[], map, string_bytes, ap, ◌∙◌, subst}
use Rattle.std.proofs.lemmas.List.{take_all}
use Rattle.std.specs.Str.Lines.{lines}
use Rattle.serde_json.specs.Read.{read}
use Rattle.ds_text.specs.Log.{log_objects}
use Rattle.ds_text.specs.Prints.{Prints}
use Rattle.ds_text.proofs.Printing.{prints_read}
use Rattle.ds_text.proofs.printed.text.Goals as goal

pub returns-clause-reads_back : goal.returns-clause-reads_back
returns-clause-reads_back c =
    let out = string_bytes c.loop-entry.out in
    let all = take_all _ _ c.loop-entry-test.false ∙ c.as_slice-entry-items.ensures in
    ap (λ t. map read (lines t)) c.from_string.ensures ∙ prints_read (log_objects c.args.log.now) out (subst (λ es. Prints [] (log_objects es) out) all c.loop-entry.invariant)
