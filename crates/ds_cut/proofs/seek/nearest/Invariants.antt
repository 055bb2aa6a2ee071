use Rattle.std.proofs.Common.{◌≡◌, true, drop, None, IfSome}
use Rattle.ds_kind.specs.Asks.{is_proper}
use Rattle.ds_kind.specs.Reach.{reach_of_bounds}
use Rattle.ds_cover.specs.Items.{AreProper}
use Rattle.ds_cut.specs.Seek.{first_over, near_end_of}
use Rattle.ds_cut.proofs.seek.nearest.Given as goal

-- what is met first so far, with the items to come, is what is met first of all
abbrev pub invariant-items : goal.invariant-items
invariant-items l = record {
  near : first_over l.dir (near_end_of l.dir l.so_far) (drop l.item-index l.items) ≡ first_over l.dir None l.items;
  found : IfSome l.so_far (λ b. is_proper (reach_of_bounds b) ≡ true);
  proper : AreProper (drop l.item-index l.items);
}
