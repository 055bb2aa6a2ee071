use Rattle.std.proofs.Common.{option_and_then, sym, ap, ◌∙◌, arith}
use Rattle.ds_fields.specs.Parts.{sole_member}
use Rattle.ds_fields.proofs.FewItems.{sole_other, sole_one}
use Rattle.ds_fields.proofs.parts.sole_member.Goals as goal

pub returns-then-len-ne1 : goal.returns-then-len-ne1
returns-then-len-ne1 c =
    let entries = c.in_ok-members.members.now.entries in
    sym (ap (option_and_then sole_member) (sym c.in_ok-members.ensures) ∙ sole_other entries (λ e. c.if-len-ne1.true (c.len.ensures.len ∙ e)))

pub returns-in-Some : goal.returns-in-Some
returns-in-Some c =
    let entries = c.in_ok-members.members.now.entries in
    let one = sole_one entries _ _ (omega (arith, c.len.ensures.len)) c.in-Some.ensures.first in
    rw c.as_str.ensures.value one ∙ ap (option_and_then sole_member) c.in_ok-members.ensures
