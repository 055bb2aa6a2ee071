use Rattle.std.proofs.Common.{sym}
use Rattle.ds_text.proofs.KeyTexts.{key_more}
use Rattle.ds_text.proofs.to_json.key_text.Goals as goal

pub loop-byte-preserved : goal.loop-byte-preserved
loop-byte-preserved c =
    let more = key_more c.bytes-byte-items.result.now c.loop-byte.byte-index 0 c.loop-byte-test.true in
    rw (c.in_ok-push.ensures.bytes, c.from.ensures) (rw c.loop-byte.invariant (sym more))
