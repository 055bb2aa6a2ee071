use Rattle.std.proofs.Common.{rules, ◌≡◌, ◌∷◌, None}
use Rattle.ds_range.proofs.Joining.{rest_among, first_among, gone_more, beside_more}
use Rattle.ds_range.proofs.join.end_each.Goals as goal

pub from-preserved : goal.from-preserved
from-preserved c =
    let is : c.from.key-iterator ≡ (c.in-Some.key.now, c.in-Some.field-0-1.now) ∷ c.next.new.self = search rules in
    let of_from = first_among c.args.from.now.entries c.next.new.self c.from.key-iterator (c.in-Some.key.now, c.in-Some.field-0-1.now) is c.from.invariant.among in record {
      among = rest_among c.args.from.now.entries c.next.new.self c.from.key-iterator (c.in-Some.key.now, c.in-Some.field-0-1.now) is c.from.invariant.among;
      gone = gone_more c.args.from.now.entries c.next.new.self c.from.key-iterator c.from.to.entries c.end_at.new.cells.entries (c.in-Some.key.now, c.in-Some.field-0-1.now) is c.end_at.ensures c.from.invariant.gone;
      beside = beside_more c.in-Some.key.now None c.args.from.now.entries c.args.to.now.entries c.from.to.entries c.end_at.new.cells.entries of_from c.end_at.ensures c.from.invariant.beside;
    }
