use Rattle.std.proofs.Common.{rules, ◌≡◌, ◌∷◌, Some}
use Rattle.ds_cell.specs.Content.{no_content}
use Rattle.ds_range.proofs.Joining.{rest_among, first_among, begun_more, beside_more}
use Rattle.ds_range.proofs.join.begin_each.Goals as goal

pub from-preserved : goal.from-preserved
from-preserved c =
    let is : c.from.key-iterator ≡ (c.in-Some.key.now, c.in-Some.field-0-1.now) ∷ c.next.new.self = search rules in
    let of_from = first_among c.args.from.now.entries c.next.new.self c.from.key-iterator (c.in-Some.key.now, c.in-Some.field-0-1.now) is c.from.invariant.among in record {
      among = rest_among c.args.from.now.entries c.next.new.self c.from.key-iterator (c.in-Some.key.now, c.in-Some.field-0-1.now) is c.from.invariant.among;
      begun = begun_more c.args.from.now.entries c.next.new.self c.from.key-iterator c.from.to.entries c.begin_at.new.cells.entries (c.in-Some.key.now, c.in-Some.field-0-1.now) no_content is c.in_ok-begin_at.ensures.ok c.from.invariant.begun;
      beside = beside_more c.in-Some.key.now (Some no_content) c.args.from.now.entries c.args.to.now.entries c.from.to.entries c.begin_at.new.cells.entries of_from c.in_ok-begin_at.ensures.ok c.from.invariant.beside;
    }
