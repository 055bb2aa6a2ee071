use Rattle.std.proofs.Common.{◌≡◌, drop}
use Rattle.ds_cut.specs.Within.{none_past}
use Rattle.ds_cut.proofs.within.none_past.Given as goal

-- none so far reaches past the span
abbrev pub invariant-items : goal.invariant-items
invariant-items l = none_past l.dir l.span (drop l.item-index l.items) ≡ none_past l.dir l.span l.items
