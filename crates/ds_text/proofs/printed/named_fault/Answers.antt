use Rattle.std.proofs.Common.{[], ◌∷◌, map, ap, ◌∙◌}
use Rattle.std.specs.Str.Lines.{lines}
use Rattle.serde_json.specs.Read.{read}
use Rattle.ds_text.specs.Lines.{fault_line}
use Rattle.ds_text.proofs.Printing.{prints_from_new, one_text, prints_read}
use Rattle.ds_text.proofs.printed.named_fault.Goals as goal

pub returns : goal.returns
returns c =
    let d = fault_line c.args.kind.now c.args.line in
    let p = prints_from_new c.new-out.ensures.bytes c.in_ok-fault_object.ensures c.in_ok-put_line.ensures in
    record {
      text = c.from_string.ensures ∙ one_text d p;
      reads_back = ap (λ t. map read (lines t)) c.from_string.ensures ∙ prints_read (d ∷ []) _ p;
    }
