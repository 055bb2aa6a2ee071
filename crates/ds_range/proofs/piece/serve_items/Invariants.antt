use Rattle.std.proofs.Common.{drop}
use Rattle.ds_range.proofs.Evaluating.{Underway}
use Rattle.ds_range.proofs.piece.serve_items.Given as goal

abbrev pub invariant-items : goal.invariant-items
invariant-items l = Underway l.records l.head l.left (drop l.item-index l.items) l.items l.initial.cells.entries l.cells.entries l.undo l.keys l.replies
