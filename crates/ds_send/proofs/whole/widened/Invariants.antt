use Rattle.std.proofs.Common.{◌≡◌, true, drop}
use Rattle.std.specs.List.{list_all}
use Rattle.ds_kind.specs.Asks.{has_proper_span}
use Rattle.ds_kind.specs.Parts.{requests_of}
use Rattle.ds_kind.specs.WholeSpan.{widened}
use Rattle.ds_send.proofs.whole.widened.Given as goal

-- the span so far, widened by those to come, is that of all
abbrev pub invariant-loop-item : goal.invariant-loop-item
invariant-loop-item l = record {
  span : widened l.span (drop l.item-index l.items) ≡ widened l.initial.span l.items;
  proper : list_all has_proper_span (requests_of (drop l.item-index l.items)) ≡ true;
}
