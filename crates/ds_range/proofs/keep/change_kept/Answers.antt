use Rattle.std.proofs.Common.{rules, ◌≡◌, ◌++◌, ◌∷◌, []}
use Rattle.ds_range.proofs.Maps.{kept_more}
use Rattle.ds_range.proofs.keep.change_kept.Goals as goal

pub returns-in-Ok-clause-back : goal.returns-in-Ok-clause-back
returns-in-Ok-clause-back g c =
    let more : c.keep.new.undo ≡ c.args.undo.now ++ (c.args.key.now, c.in_ok-taken.taken) ∷ [] = search rules in
    kept_more c.args.undo.now c.keep.new.undo (c.args.key.now, c.in_ok-taken.taken) c.args.cells.now.entries c.change_at.new.cells.entries more c.in_ok-taken.ensures.back
