use Rattle.std.proofs.Common.{rules, ◌≡◌, subst}
use Rattle.ds_range.specs.Evaluates.{ServedItems}
use Rattle.ds_range.specs.declared.serve.Tried.TheVariants.{Replied}
use Rattle.ds_range.proofs.Evaluating.{tried_replied}
use Rattle.ds_range.proofs.piece.try_items.Goals as goal

pub returns-clause-tried : goal.returns-clause-tried
returns-clause-tried c =
    let items : c.as_slice.result.now ≡ c.args.piece.now.items = search rules in
    let is : c.in_ok-tried.tried ≡ Replied c.in-Replied.replies = search rules in
    tried_replied c.args.records.now c.args.piece.now.head c.args.piece.now.items c.args.cells.now.entries c.serve_items.new.cells.entries c.finish_at.new.cells.entries c.serve_items.new.keys c.in-Replied.replies
    (subst (λ z. ServedItems c.args.records.now c.args.piece.now.head c.args.piece.now.items c.args.cells.now.entries c.serve_items.new.cells.entries c.serve_items.new.keys z) is
    (subst (λ z. ServedItems c.args.records.now c.args.piece.now.head z c.args.cells.now.entries c.serve_items.new.cells.entries c.serve_items.new.keys c.in_ok-tried.tried) items c.in_ok-tried.ensures.all))
    c.in_ok-finish_at-in-Replied.ensures.ok
