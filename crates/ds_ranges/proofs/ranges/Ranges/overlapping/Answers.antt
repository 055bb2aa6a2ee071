use Rattle.std.proofs.Common.{◌≡◌, filter, ap, ◌∙◌}
use Rattle.ds_rule.specs.Deliver.{overlaps}
use Rattle.ds_ranges.proofs.Touching.{touched-ok}
use Rattle.ds_ranges.proofs.ranges.Ranges.overlapping.Goals as goal

pub returns : goal.returns
returns c =
    let p = overlaps c.args.items.now in
    let part : c.touched.result.now ≡ filter (overlaps c.args.items.now) c.args.self.now.ranges =
    c.touched.ensures ∙ ap (filter p) c.as_slice.ensures.value ∙ ap (λ l. filter p l.ranges) c.self.view_is in
    touched-ok c.args.dir p 8 c.args.self.now.ranges c.touched.result.now c.first_rows.result part c.first_rows.ensures
