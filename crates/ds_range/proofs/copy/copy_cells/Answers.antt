use Rattle.std.proofs.Common.{rules, ◌≡◌, [], ◌∷◌, ◌++◌, sym, ap, ◌∙◌, subst}
use Rattle.ds_base.specs.Ordered.{AllBelow}
use Rattle.ds_cell.specs.Ask.{key_of}
use Rattle.ds_range.proofs.Copying.{copied-more, next-last}
use Rattle.ds_range.proofs.copy.copy_cells.Goals as goal

pub put_last-requires : goal.put_last-requires
put_last-requires c =
    let made = c.each.made.entries in
    let is : c.each.key-iterator ≡ (c.in-Some.key.now, c.in-Some.cell.now) ∷ c.next.new.self = search rules in
    subst (λ k. AllBelow key_of k made) (sym c.in_ok-copy.ensures)
    (next-last made c.each.key-iterator c.next.new.self c.args.cells.now.entries (c.in-Some.key.now, c.in-Some.cell.now) c.ordered.ensures is c.each.invariant)

pub each-preserved : goal.each-preserved
each-preserved c =
    let made = c.each.made.entries in
    let is : c.each.key-iterator ≡ (c.in-Some.key.now, c.in-Some.cell.now) ∷ c.next.new.self = search rules in
    copied-more made c.put_last.new.cells.entries c.each.key-iterator c.next.new.self c.args.cells.now.entries (c.in-Some.key.now, c.in-Some.cell.now)
    (c.in_ok-put_last.ensures ∙ ap (λ k. made ++ (k, c.in_ok-copy-2.field-0) ∷ []) c.in_ok-copy.ensures ∙ ap (λ z. made ++ (c.in-Some.key.now, z) ∷ []) c.in_ok-copy-2.ensures)
    is c.each.invariant
