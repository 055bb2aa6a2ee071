use Rattle.std.proofs.Common.{◌≡◌, ◌≤◌, ◌-◌, true, drop, length, None, IfSome}
use Rattle.ds_kind.specs.Asks.{is_proper}
use Rattle.ds_kind.specs.Reach.{reach_of_bounds}
use Rattle.ds_cut.specs.Fates.{all_left}
use Rattle.ds_cut.specs.Seek.{first_over, near_end_of}
use Rattle.ds_cut.proofs.Sharing.{Meeting}
use Rattle.ds_cut.proofs.share.nearest_left.Given as goal

abbrev pub invariant-items : goal.invariant-items
invariant-items l = record {
  within : l.i ≤ length l.items;
  meets : Meeting l.dir (near_end_of l.dir l.so_far) (drop l.i l.items) (drop l.i l.fates) (first_over l.dir None (all_left l.fates l.items));
  found : IfSome l.so_far (λ b. is_proper (reach_of_bounds b) ≡ true);
}

abbrev pub decreases-items : goal.decreases-items
decreases-items l = length l.items - l.i
