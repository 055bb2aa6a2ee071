use Rattle.std.proofs.Common.{◌≡◌}
use Rattle.std.specs.List.{fold}
use Rattle.ds_cell.specs.Change.{made}
use Rattle.ds_cell.specs.Content.{Rises, stamp_of}
use Rattle.ds_cell.specs.Taken.{without_stamps}
use Rattle.ds_cell.proofs.versions.make_all.Given as goal

-- the versions so far were made, and can be taken away
abbrev pub invariant-new : goal.invariant-new
invariant-new l = record {
  made : l.versions.items ≡ fold made l.initial.versions.items l.yielded;
  back : without_stamps l.stamps l.versions.items ≡ without_stamps l.initial.stamps l.initial.versions.items;
  rises : Rises stamp_of l.versions.items;
}
