use Rattle.std.proofs.Common.{rules, ◌≡◌, None, subst}
use Rattle.ds_range.specs.Evaluates.{ServedNext}
use Rattle.ds_range.proofs.Evaluating.{underway_more}
use Rattle.ds_range.proofs.piece.serve_items.Goals as goal

pub items-preserved : goal.items-preserved
items-preserved c =
    let served : c.in_ok-failed.failed ≡ None = search rules in
    underway_more c.args.records.now c.args.head.now c.items.left c.serve_next.new.left c.args.items.now c.items.item-index c.item-item.result c.args.cells.now.entries c.items.cells.entries c.serve_next.new.cells.entries c.items.undo c.serve_next.new.undo c.items.keys c.serve_next.new.keys c.items.replies c.serve_next.new.replies c.items.invariant c.items-test.true c.item-item.is
    (subst (λ o. ServedNext c.args.records.now c.args.head.now c.items.left c.serve_next.new.left c.item-item.result c.items.cells.entries c.serve_next.new.cells.entries c.items.keys c.serve_next.new.keys c.items.replies c.serve_next.new.replies o) served c.in_ok-failed.ensures.next)
    c.serve_next.ensures.back
