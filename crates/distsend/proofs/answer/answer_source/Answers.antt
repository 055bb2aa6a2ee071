use Rattle.std.proofs.Common.{refl, rules, subst}
use Rattle.distsend.specs.Parts.{Judged}
use Rattle.distsend.proofs.Ways.{whole_source, long_source}
use Rattle.distsend.proofs.answer.answer_source.Goals as goal

pub returns-in-Ok : goal.returns-in-Ok
returns-in-Ok g c =
    whole_source _ c.in-Ok.bytes.items _ _ (c.in-Ok.ensures.ok, c.in-Ok.ensures.end, c.in-Ok.ensures.counts) c.in-Ok.ensures.few
    (subst (λ bytes. Judged bytes c.answer_bytes.result.0 c.answer_bytes.result.1) c.deref.ensures.value c.answer_bytes.ensures)

pub returns-in-Err-Fault : goal.returns-in-Err-Fault
returns-in-Err-Fault g c = (refl, c.in-Err-Fault.ensures.fault (search rules), search rules)

pub returns-in-Err-TooLong : goal.returns-in-Err-TooLong
returns-in-Err-TooLong g c =
    let too = c.in-Err-TooLong.ensures.too_long (search rules) in
    long_source _ too.0 _ _ too.1 too.2 (c.in-Err-TooLong.ensures.too_long_counts (search rules)) c.refused.ensures
