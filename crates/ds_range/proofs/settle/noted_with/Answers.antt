use Rattle.std.proofs.Common.{rules, ◌≡◌, ◌++◌, subst, sym}
use Rattle.ds_range.specs.Covers.{Covers}
use Rattle.ds_range.specs.Keeps.{kept_keys}
use Rattle.ds_range.proofs.Covering.{covers_kept}
use Rattle.ds_range.proofs.settle.noted_with.Goals as goal

pub returns : goal.returns
returns c = λ h.
    let are : c.as_slice.result.now ≡ kept_keys c.args.undo.now = search rules in
    c.in_ok-note_all.ensures (subst (λ z. Covers (z ++ c.args.written) c.args.cells.now.entries) (sym are) (covers_kept c.args.undo.now c.args.written c.args.cells.now.entries h))
