use Rattle.std.proofs.Common.{◌≡◌, false, sym, subst}
use Rattle.ds_desc.specs.Descs.{overlap}
use Rattle.ds_lineage.specs.Last.{Follows}
use Rattle.ds_rule.specs.Shifts.{left_part, right_part}
use Rattle.ds_ranges.proofs.Parting.{part-apart, part-left, part-right}
use Rattle.ds_ranges.proofs.descs.part_at.Goals as goal

pub part-requires-clause-left : goal.part-requires-clause-left
part-requires-clause-left c =
    let r = c.range_at-range.result.now in
    let at = c.range_at-range.ensures in
    subst (λ z. Follows c.args.lineage.now z.span c.args.place) (sym c.in_ok-left.ensures) (part-left c.args.lineage.now c.args.place c.args.key.now r (c.requires.newest r at) (c.requires.below r at))

pub part-requires-clause-right : goal.part-requires-clause-right
part-requires-clause-right c =
    let r = c.range_at-range.result.now in
    let at = c.range_at-range.ensures in
    subst (λ z. Follows c.args.lineage.now z.span c.args.place) (sym c.in_ok-right.ensures) (part-right c.args.lineage.now c.args.place c.args.key.now c.args.id r (c.requires.newest r at) (c.requires.above r at))

pub part-requires-clause-apart : goal.part-requires-clause-apart
part-requires-clause-apart c =
    let r = c.range_at-range.result.now in
    let right = right_part c.args.id c.args.key.now r in
    subst (λ z. overlap z.span c.in_ok-right.right.span ≡ false) (sym c.in_ok-left.ensures)
    (subst (λ z. overlap (left_part c.args.key.now r).info.desc.span z.span ≡ false) (sym c.in_ok-right.ensures) (part-apart c.args.key.now c.args.id r))
