use Rattle.std.proofs.Common.{◌≡◌, ◌<◌, [], suc, Some, sym, ap, ◌∙◌, subst, length, arith}
use Rattle.std.specs.List.{slice_get}
use Rattle.ds_desc.specs.Descs.{greatest_id}
use Rattle.ds_ranges.proofs.Events.{Entry, entry}
use Rattle.ds_ranges.proofs.Parting.{fits-at, neighbours-meet, neighbours-span, next-fits, taken-back}
use Rattle.ds_ranges.proofs.shape.merge_both.Goals as goal

pub join_at-requires-clause-newest : goal.join_at-requires-clause-newest
join_at-requires-clause-newest c = λ r at. c.requires.newest r (subst (λ z. slice_get z c.args.at ≡ Some r) c.as_slice.ensures.value at)

pub join_at-requires-clause-next : goal.join_at-requires-clause-next
join_at-requires-clause-next c = λ s next. c.requires.next s (subst (λ z. slice_get z (suc c.args.at) ≡ Some s) c.as_slice.ensures.value next)

pub join_at-requires-clause-meet : goal.join_at-requires-clause-meet
join_at-requires-clause-meet c = λ r s at next.
    neighbours-meet [] c.args.ranges.now.items c.args.at r s c.requires.tiled (subst (λ z. slice_get z c.args.at ≡ Some r) c.as_slice.ensures.value at) (subst (λ z. slice_get z (suc c.args.at) ≡ Some s) c.as_slice.ensures.value next)

pub join_at-requires-clause-span : goal.join_at-requires-clause-span
join_at-requires-clause-span c = λ r s at next.
    neighbours-span [] c.args.ranges.now.items c.args.at r s c.requires.tiled (subst (λ z. slice_get z c.args.at ≡ Some r) c.as_slice.ensures.value at) (subst (λ z. slice_get z (suc c.args.at) ≡ Some s) c.as_slice.ensures.value next)

pub join_at-requires-clause-can : goal.join_at-requires-clause-can
join_at-requires-clause-can c = λ r s at next. c.requires.can r s (subst (λ z. slice_get z c.args.at ≡ Some r) c.as_slice.ensures.value at) (subst (λ z. slice_get z (suc c.args.at) ≡ Some s) c.as_slice.ensures.value next)

pub merge_at-requires-clause-fits : goal.merge_at-requires-clause-fits
merge_at-requires-clause-fits c = λ r at. fits-at [] c.args.ranges.now.items c.args.at r c.requires.tiled at

pub merge_at-requires-clause-next : goal.merge_at-requires-clause-next
merge_at-requires-clause-next c = λ r s at next. next-fits [] c.args.ranges.now.items c.args.at r s c.requires.tiled at next

pub take_back-requires : goal.take_back-requires
take_back-requires c =
    let low : c.args.at < length c.args.ranges.now.items = omega (arith, c.requires.within) in
    let e : Entry c.args.ranges.now.items c.args.at = entry c.args.ranges.now.items c.args.at low in
    let f : Entry c.args.ranges.now.items (suc c.args.at) = entry c.args.ranges.now.items (suc c.args.at) c.requires.within in
    let there : slice_get c.as_slice.result.now c.args.at ≡ Some e.one = subst (λ z. slice_get z c.args.at ≡ Some e.one) (sym c.as_slice.ensures.value) e.at in
    let next : slice_get c.as_slice.result.now (suc c.args.at) ≡ Some f.one = subst (λ z. slice_get z (suc c.args.at) ≡ Some f.one) (sym c.as_slice.ensures.value) f.at in
    c.greatest_id-greatest.ensures ∙ ap greatest_id (sym (taken-back c.args.lineage.now c.join_at.new.lineage _ c.len-before.result (c.in_ok-join_at.ensures.ok e.one f.one there next) c.len-before.ensures))

pub returns-in-Ok-clause-descs : goal.returns-in-Ok-clause-descs
returns-in-Ok-clause-descs c = λ r s at next. c.in_ok-join_at.ensures.ok r s (subst (λ z. slice_get z c.args.at ≡ Some r) (sym c.as_slice.ensures.value) at) (subst (λ z. slice_get z (suc c.args.at) ≡ Some s) (sym c.as_slice.ensures.value) next)

pub returns-in-Err-clause-err_descs : goal.returns-in-Err-clause-err_descs
returns-in-Err-clause-err_descs c =
    let low : c.args.at < length c.args.ranges.now.items = omega (arith, c.requires.within) in
    let e : Entry c.args.ranges.now.items c.args.at = entry c.args.ranges.now.items c.args.at low in
    let f : Entry c.args.ranges.now.items (suc c.args.at) = entry c.args.ranges.now.items (suc c.args.at) c.requires.within in
    let there : slice_get c.as_slice.result.now c.args.at ≡ Some e.one = subst (λ z. slice_get z c.args.at ≡ Some e.one) (sym c.as_slice.ensures.value) e.at in
    let next : slice_get c.as_slice.result.now (suc c.args.at) ≡ Some f.one = subst (λ z. slice_get z (suc c.args.at) ≡ Some f.one) (sym c.as_slice.ensures.value) f.at in
    c.take_back.ensures ∙ taken-back c.args.lineage.now c.join_at.new.lineage _ c.len-before.result (c.in_ok-join_at.ensures.ok e.one f.one there next) c.len-before.ensures
