use Rattle.std.proofs.Common.{◌≡◌, take, map}
use Rattle.ds_range.proofs.settle.keys_kept.Given as goal

abbrev pub invariant-kept : goal.invariant-kept
invariant-kept l = l.keys ≡ map (λ p. p.0) (take l.key-index l.undo)
