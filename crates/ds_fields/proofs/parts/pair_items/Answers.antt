use Rattle.std.proofs.Common.{option_and_then, sym, ap, ◌∙◌}
use Rattle.ds_fields.specs.Parts.{pair_items}
use Rattle.ds_fields.proofs.FewItems.{pair_other, pair_two}
use Rattle.ds_fields.proofs.parts.pair_items.Goals as goal

pub returns-then-items-ne2 : goal.returns-then-items-ne2
returns-then-items-ne2 c =
    let found = rw (sym c.as_slice-items.ensures.value) at c.in_ok-as_array.ensures in
    sym (ap (option_and_then pair_items) (sym found) ∙ pair_other c.as_slice-items.result.now c.if-items-ne2.true)

pub returns : goal.returns
returns c =
    let found = rw (sym c.as_slice-items.ensures.value) at c.in_ok-as_array.ensures in
    pair_two c.as_slice-items.result.now _ _ c.if-items-ne2.false c.index-items-0.is c.index-items-1.is ∙ ap (option_and_then pair_items) found
