use Rattle.std.proofs.Common.{◌≡◌, Some, sym, ap, ◌∙◌, subst}
use Rattle.std.specs.List.{slice_get}
use Rattle.ds_desc.specs.Descs.{greatest_id}
use Rattle.ds_ranges.proofs.Events.{Entry, entry}
use Rattle.ds_ranges.proofs.Parting.{split-above, split-below, split-next, taken-back}
use Rattle.ds_ranges.proofs.shape.split_both.Goals as goal

pub part_at-requires-clause-newest : goal.part_at-requires-clause-newest
part_at-requires-clause-newest c = λ r at. c.requires.newest r (subst (λ z. slice_get z c.args.at ≡ Some r) c.as_slice.ensures.value at)

pub part_at-requires-clause-above : goal.part_at-requires-clause-above
part_at-requires-clause-above c = λ r at. split-above (greatest_id c.args.lineage.now) c.args.key.now r (c.requires.can r (subst (λ z. slice_get z c.args.at ≡ Some r) c.as_slice.ensures.value at))

pub part_at-requires-clause-below : goal.part_at-requires-clause-below
part_at-requires-clause-below c = λ r at. split-below c.args.key.now c.args.ranges.now.items c.args.at r c.requires.first (subst (λ z. slice_get z c.args.at ≡ Some r) c.as_slice.ensures.value at)

pub part_at-requires-clause-generation : goal.part_at-requires-clause-generation
part_at-requires-clause-generation c = λ r at. split-next (greatest_id c.args.lineage.now) c.args.key.now r (c.requires.can r (subst (λ z. slice_get z c.args.at ≡ Some r) c.as_slice.ensures.value at))

pub split_at-requires-clause-above : goal.split_at-requires-clause-above
split_at-requires-clause-above c = λ r at. split-above (greatest_id c.args.lineage.now) c.args.key.now r (c.requires.can r at)

pub split_at-requires-clause-below : goal.split_at-requires-clause-below
split_at-requires-clause-below c = λ r at. split-below c.args.key.now c.args.ranges.now.items c.args.at r c.requires.first at

pub split_at-requires-clause-generation : goal.split_at-requires-clause-generation
split_at-requires-clause-generation c = λ r at. split-next (greatest_id c.args.lineage.now) c.args.key.now r (c.requires.can r at)

pub take_back-requires : goal.take_back-requires
take_back-requires c =
    let e : Entry c.args.ranges.now.items c.args.at = entry c.args.ranges.now.items c.args.at c.requires.within in
    let there : slice_get c.as_slice.result.now c.args.at ≡ Some e.one = subst (λ z. slice_get z c.args.at ≡ Some e.one) (sym c.as_slice.ensures.value) e.at in
    c.greatest_id-top.ensures ∙ ap greatest_id (sym (taken-back c.args.lineage.now c.part_at.new.lineage _ c.len-count.result (c.in_ok-part_at.ensures.ok e.one there) c.len-count.ensures))

pub returns-in-Ok-clause-descs : goal.returns-in-Ok-clause-descs
returns-in-Ok-clause-descs c = λ r at. c.in_ok-part_at.ensures.ok r (subst (λ z. slice_get z c.args.at ≡ Some r) (sym c.as_slice.ensures.value) at)

pub returns-in-Err-clause-err_descs : goal.returns-in-Err-clause-err_descs
returns-in-Err-clause-err_descs c =
    let e : Entry c.args.ranges.now.items c.args.at = entry c.args.ranges.now.items c.args.at c.requires.within in
    let there : slice_get c.as_slice.result.now c.args.at ≡ Some e.one = subst (λ z. slice_get z c.args.at ≡ Some e.one) (sym c.as_slice.ensures.value) e.at in
    c.take_back.ensures ∙ taken-back c.args.lineage.now c.part_at.new.lineage _ c.len-count.result (c.in_ok-part_at.ensures.ok e.one there) c.len-count.ensures
