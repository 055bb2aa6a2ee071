use Rattle.std.proofs.Common.{sym, ap, ◌∙◌}
use Rattle.serde_json.specs.Read.{read}
use Rattle.ds_fields.specs.Members.{json_of, json_or_fault}
use Rattle.ds_fields.proofs.Texts.{text_of-utf8}
use Rattle.ds_fields.proofs.members.json_of.Goals as goal

pub returns-in-Ok-from_str : goal.returns-in-Ok-from_str
unfolding json_of
returns-in-Ok-from_str c =
    let u = c.in-Ok.ensures.cases in
    ap json_or_fault (text_of-utf8 c.args.line.now u.1 ∙ (ap read (sym u.0) ∙ c.in-Ok-from_str.ensures.ok))
