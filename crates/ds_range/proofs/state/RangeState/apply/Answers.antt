use Rattle.std.proofs.Common.{rules, ◌≡◌, subst, sym}
use Rattle.ds_rule.specs.Pieces.{Each}
use Rattle.ds_serve.specs.Shares.{HasRoom}
use Rattle.ds_range.specs.Covers.{CoversIf}
use Rattle.ds_range.specs.Evaluates.{kept_of}
use Rattle.ds_range.specs.Keeps.{restored}
use Rattle.ds_range.proofs.KeyRooms.{can_resume}
use Rattle.ds_range.proofs.Evaluating.{room_applied}
use Rattle.ds_range.proofs.state.RangeState.apply.Goals as goal

pub evaluate-requires : goal.evaluate-requires
evaluate-requires c = can_resume c.args.piece.now.head.left c.args.piece.now.items c.self.inside.cells.entries c.requires c.self.invariant.room

pub invariant_of-self : goal.invariant_of-self
invariant_of-self c = record {
  covers = subst (CoversIf c.self.inside.written) (sym c.in_err-evaluation.ensures.err) c.self.invariant.covers;
  room = subst (Each HasRoom) (sym c.in_err-evaluation.ensures.err) c.self.invariant.room;
}

pub invariant_of-self-2 : goal.invariant_of-self-2
invariant_of-self-2 c =
    let p = c.args.piece.now in
    let old = c.self.inside.cells.entries in
    let now = c.evaluate.new.cells.entries in
    let taken : c.self.inside.written ≡ c.take-written.result = search rules in record {
      covers = c.still_covered.ensures (subst (λ o. CoversIf o (restored (kept_of c.in_ok-evaluation.evaluation) c.evaluate.new.cells.entries)) taken (subst (CoversIf c.self.inside.written) (sym c.in_ok-evaluation.ensures.back) c.self.invariant.covers));
      room = room_applied c.args.records.now p.head p.head.left p.items old now c.in_ok-evaluation.ensures.after c.requires c.self.invariant.room;
    }
