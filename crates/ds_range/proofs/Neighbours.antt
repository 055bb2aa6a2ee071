-- What two neighbours hold, told by the parts of each.
use Rattle.std.proofs.Common.{◌≡◌, true, ◌++◌, sym, subst}
use Rattle.ds_base.specs.Order.{key_lt}
use Rattle.ds_base.specs.Ordered.{Ascends}
use Rattle.ds_base.proofs.KeyOrder.{key_lt-trans}
use Rattle.ds_desc.specs.declared.desc.Info.{Info}
use Rattle.ds_cell.specs.Ask.{Cells, key_of}
use Rattle.ds_rule.specs.World.{Range, start_of, end_of, Fits}
use Rattle.ds_rule.proofs.Routes.{ascends-append, inside-below, inside-from, le_itself}

both_ascend : (r s : Range) → Fits (start_of r) r → Fits (end_of r) s → Ascends key_of (r.cells ++ s.cells)
both_ascend r s first next =
    ascends-append (end_of r) r.cells s.cells first.rising (inside-below (start_of r) (end_of r) (end_of r) r.cells (le_itself (end_of r)) first.inside)
    next.rising (inside-from (end_of r) (end_of s) (end_of r) s.cells (le_itself (end_of r)) next.inside)

-- the contents of both are in the order of their keys
pub neighbours_ascend : (r s : Range) (xs ys : Cells) → xs ≡ r.cells → ys ≡ s.cells → Fits (start_of r) r → Fits (end_of r) s → Ascends key_of (xs ++ ys)
neighbours_ascend r s xs ys left right first next =
    subst (λ z. Ascends key_of (z ++ ys)) (sym left) (subst (λ z. Ascends key_of (r.cells ++ z)) (sym right) (both_ascend r s first next))

-- the first starts below the end of the second
pub start_below_end : (r s : Range) (i j : Info) → i ≡ r.info → j ≡ s.info → Fits (start_of r) r → Fits (end_of r) s → key_lt i.desc.span.start j.desc.span.end ≡ true
start_below_end r s i j left right first next =
    subst (λ z. key_lt z.desc.span.start j.desc.span.end ≡ true) (sym left)
    (subst (λ z. key_lt (start_of r) z.desc.span.end ≡ true) (sym right) (key_lt-trans (start_of r) (end_of r) (end_of s) first.some next.some))
