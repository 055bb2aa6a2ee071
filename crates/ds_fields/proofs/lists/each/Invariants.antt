use Rattle.std.proofs.Common.{◌≡◌, drop}
use Rattle.serde_json.specs.View.{items_view}
use Rattle.ds_fields.specs.Lists.{each}
use Rattle.ds_fields.proofs.Each.{joined, front_of}
use Rattle.ds_fields.proofs.lists.each.Given as goal

abbrev pub invariant-loop-item : goal.invariant-loop-item
invariant-loop-item g l =
    joined (front_of l.fits l.found.items) (each (g.R.Reader.reads l.reader) (items_view (drop l.item-index l.items))) ≡ each (g.R.Reader.reads l.reader) (items_view l.items)
