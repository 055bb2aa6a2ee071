use Rattle.ds_range.proofs.KeyRooms.{room_undone}
use Rattle.ds_range.proofs.state.RangeState.undo.Goals as goal

pub invariant_of-self : goal.invariant_of-self
invariant_of-self c = record {
  covers = tt;
  room = room_undone c.args.undo.kept c.self.inside.cells.entries c.put_all_back.new.cells.entries c.put_all_back.ensures c.self.invariant.room;
}
