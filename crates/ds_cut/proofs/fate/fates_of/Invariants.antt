use Rattle.std.proofs.Common.{take, drop}
use Rattle.ds_cover.specs.Items.{AreProper}
use Rattle.ds_cut.specs.Fates.{AreFates}
use Rattle.ds_cut.proofs.fate.fates_of.Given as goal

-- the items so far have their fates
abbrev pub invariant-items : goal.invariant-items
invariant-items l = record {
  made : AreFates l.dir l.span (take l.item-index l.items) l.fates.items;
  proper : AreProper (drop l.item-index l.items);
}
