use Rattle.std.proofs.Common.{option_and_then, sym, ap, ◌∙◌}
use Rattle.ds_fields.specs.Parts.{triple_items}
use Rattle.ds_fields.proofs.FewItems.{triple_other, triple_three}
use Rattle.ds_fields.proofs.parts.triple_items.Goals as goal

pub returns-then-items-ne3 : goal.returns-then-items-ne3
returns-then-items-ne3 c =
    let found = rw (sym c.as_slice-items.ensures.value) at c.in_ok-as_array.ensures in
    sym (ap (option_and_then triple_items) (sym found) ∙ triple_other c.as_slice-items.result.now c.if-items-ne3.true)

pub returns : goal.returns
returns c =
    let found = rw (sym c.as_slice-items.ensures.value) at c.in_ok-as_array.ensures in
    triple_three c.as_slice-items.result.now _ _ _ c.if-items-ne3.false c.index-items-0.is c.index-items-1.is c.index-items-2.is ∙ ap (option_and_then triple_items) found
