use Rattle.std.proofs.Common.{rules, ◌≡◌, [], length, refl, ap, ◌∙◌, subst, true, Some}
use Rattle.std.specs.List.{slice_get}
use Rattle.std.proofs.lemmas.Option.{slice_get_read}
use Rattle.ds_base.specs.Order.{holds}
use Rattle.ds_desc.specs.Descs.{containing}
use Rattle.ds_ranges.proofs.Starting.{before-none}
use Rattle.ds_ranges.proofs.begin.first_lineage.Goals as goal

pub begin-requires : goal.begin-requires
begin-requires c = λ k h.
    let ranges = c.args.ranges.now in
    let r = c.index-ranges-i.result in
    let is : c.in_ok-desc.desc ≡ c.index-ranges-i.result.info.desc = search rules in
    let there : slice_get ranges c.each.i ≡ Some c.index-ranges-i.result = slice_get_read ranges (length ranges) c.each.i r refl c.each-test.true c.index-ranges-i.is in
    ap (containing k) c.each.invariant ∙ before-none k [] ranges c.each.i r c.requires there (subst (λ z. holds z.span.start z.span.end k ≡ true) is h)
