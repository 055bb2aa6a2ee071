use Rattle.ds_rule.specs.Records.{record_of}
use Rattle.ds_rule.specs.Serve.{decided}
use Rattle.ds_range.proofs.Covering.{covers_if}
use Rattle.ds_range.proofs.KeyRooms.{room_resolved}
use Rattle.ds_range.proofs.state.RangeState.resolve.Goals as goal

pub invariant_of-self : goal.invariant_of-self
invariant_of-self c =
    let old = c.self.inside.cells.entries in
    let new = c.resolve_span.new.cells.entries in record {
      covers = covers_if c.self.inside.written old new c.resolve_span.ensures.covers c.self.invariant.covers;
      room = room_resolved c.args.span.now c.args.txn.0 (decided (record_of c.args.txn.0 c.args.records.now)) old new c.resolve_span.result c.resolve_span.ensures.ok c.resolve_span.ensures.err c.self.invariant.room;
    }
