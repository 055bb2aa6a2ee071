use Rattle.ds_cell.specs.Change.{after_foreign}
use Rattle.ds_range.proofs.Covering.{covers_if}
use Rattle.ds_range.proofs.KeyRooms.{room_foreign}
use Rattle.ds_range.proofs.state.RangeState.foreign.Goals as goal

pub invariant_of-self : goal.invariant_of-self
invariant_of-self c = record {
  covers = covers_if _ _ _ c.foreign_at.ensures.covers c.self.invariant.covers;
  room = room_foreign c.args.key.now (after_foreign (record { stamp = c.args.stamp; value = c.args.value })) c.self.inside.cells.entries c.foreign_at.new.cells.entries c.foreign_at.result c.requires c.foreign_at.ensures.ok c.foreign_at.ensures.err c.self.invariant.room;
}
