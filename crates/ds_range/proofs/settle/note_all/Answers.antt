use Rattle.std.proofs.Common.{◌≡◌, ◌++◌, ◌∷◌, ◌+◌, drop, subst, sym, ap, ◌∙◌}
use Rattle.ds_range.specs.Covers.{Covers}
use Rattle.std.proofs.lemmas.List.{drop_more}
use Rattle.ds_range.proofs.settle.note_all.Goals as goal

pub keys-preserved : goal.keys-preserved
keys-preserved c = λ h.
    let next : drop c.keys.key-index c.args.keys.now ≡ c.key-item.result ∷ drop (c.keys.key-index + 1) c.args.keys.now = drop_more c.args.keys.now c.keys.key-index c.key-item.result c.keys-test.true ∙ ap (λ k. k ∷ drop (c.keys.key-index + 1) c.args.keys.now) (sym c.key-item.is) in
    c.in_ok-note.ensures (drop (c.keys.key-index + 1) c.args.keys.now) (subst (λ z. Covers (z ++ c.keys.written) c.args.cells.now.entries) next (c.keys.invariant h))
