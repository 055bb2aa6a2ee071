use Rattle.std.proofs.Common.{rules, ◌≡◌, subst, sym}
use Rattle.ds_base.specs.Order.{key_lt, key_le}
use Rattle.ds_rule.specs.Pieces.{Each}
use Rattle.ds_serve.specs.Shares.{HasRoom}
use Rattle.ds_range.specs.Covers.{CoversIf}
use Rattle.ds_range.proofs.KeyRooms.{room_part}
use Rattle.ds_range.proofs.state.RangeState.split.Goals as goal

pub invariant_of-result : goal.invariant_of-result
invariant_of-result c =
    let old = c.self.inside.cells.entries in
    let taken : c.self.inside.written ≡ c.take.result = search rules in record {
      covers = subst (CoversIf _) (sym c.in_ok-cells.ensures.high) (c.divided-low.ensures.high old (subst (λ o. CoversIf o old) taken c.self.invariant.covers));
      room = subst (Each HasRoom) (sym c.in_ok-cells.ensures.high) (room_part (λ p. key_le c.args.key.now p.0) old c.self.invariant.room);
    }

pub invariant_of-self-2 : goal.invariant_of-self-2
invariant_of-self-2 c =
    let old = c.self.inside.cells.entries in
    let taken : c.self.inside.written ≡ c.take.result = search rules in record {
      covers = subst (CoversIf _) (sym c.in_ok-cells.ensures.low) (c.divided-low.ensures.low old (subst (λ o. CoversIf o old) taken c.self.invariant.covers));
      room = subst (Each HasRoom) (sym c.in_ok-cells.ensures.low) (room_part (λ p. key_lt p.0 c.args.key.now) old c.self.invariant.room);
    }
