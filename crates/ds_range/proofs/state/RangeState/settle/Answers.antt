use Rattle.std.proofs.Common.{rules, ◌≡◌, None, sym, subst}
use Rattle.ds_range.specs.Covers.{Covers, CoversIf}
use Rattle.ds_range.specs.Resolves.{PartlyAs, settle_cell}
use Rattle.ds_range.proofs.KeyRooms.{room_settled}
use Rattle.ds_range.proofs.Resolving.{none_partly}
use Rattle.ds_range.proofs.state.RangeState.settle.Goals as goal

pub returns-in_err-keys-clause-partly : goal.returns-in_err-keys-clause-partly
returns-in_err-keys-clause-partly c =
    subst (λ r. PartlyAs (settle_cell c.args.txn.0 c.args.commit) r.cells c.self.inside.cells.entries) c.self.view_is (none_partly c.args.txn.0 c.args.commit c.self.inside.cells.entries)

pub invariant_of-self-in_err-settle_each : goal.invariant_of-self-in_err-settle_each
invariant_of-self-in_err-settle_each c =
    let none : c.take.new.self ≡ None = search rules in record {
      covers = subst (λ o. CoversIf o c.settle_each.new.cells.entries) (sym none) tt;
      room = room_settled c.args.txn.0 c.args.commit c.self.inside.cells.entries c.settle_each.new.cells.entries c.settle_each.ensures.partly c.self.invariant.room;
    }

pub invariant_of-self-2 : goal.invariant_of-self-2
invariant_of-self-2 c =
    let same : c.as_slice.result.now ≡ c.in_ok-keys.keys = search rules in record {
      covers = c.still_written.ensures (subst (λ ks. Covers ks c.settle_each.new.cells.entries) same c.in_ok-settle_each.ensures.covers);
      room = room_settled c.args.txn.0 c.args.commit c.self.inside.cells.entries c.settle_each.new.cells.entries c.settle_each.ensures.partly c.self.invariant.room;
    }
