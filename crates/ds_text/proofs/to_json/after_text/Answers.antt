use Rattle.std.proofs.Common.{sym}
use Rattle.ds_text.proofs.KeyTexts.{text_more}
use Rattle.ds_text.proofs.to_json.after_text.Goals as goal

pub returns : goal.returns
returns c = rw (c.in_ok-push.ensures.bytes, c.in_ok-text.ensures) (sym (text_more c.args.key.now 0))
