use Rattle.std.proofs.Common.{drop}
use Rattle.ds_cover.specs.Items.{AreProper}
use Rattle.ds_cover.specs.Measures.{AllSpans}
use Rattle.ds_cut.proofs.spans.spans_known.Given as goal

-- where the spans to come are spans of keys, all are
abbrev pub invariant-items : goal.invariant-items
invariant-items l = record {
  all : AllSpans (drop l.item-index l.items) → AllSpans l.items;
  proper : AreProper (drop l.item-index l.items);
}
