use Rattle.std.proofs.Common.{sym, subst}
use Rattle.ds_lineage.specs.Last.{Joins}
use Rattle.ds_lineage.proofs.Spans.{joins-neighbours}
use Rattle.ds_ranges.proofs.descs.join_at.Goals as goal

pub join-requires : goal.join-requires
join-requires c =
    let r = c.range_at.result.now in
    let s = c.next_to.result.now in
    subst (λ z. Joins c.args.lineage.now z.span c.args.places.0 c.args.places.1) (sym c.in_ok-desc.ensures)
    (joins-neighbours c.args.lineage.now r.info.desc s.info.desc c.args.places.0 c.args.places.1 (c.requires.meet r s c.range_at.ensures c.next_to.ensures) (c.requires.newest r c.range_at.ensures) (c.requires.next s c.next_to.ensures))
