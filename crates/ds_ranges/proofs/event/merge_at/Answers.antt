use Rattle.std.proofs.Common.{◌≡◌, ◌+◌, ◌∙◌, sym, ap, suc, Some, arith}
use Rattle.std.specs.List.{insert, remove, slice_get}
use Rattle.std.proofs.Math.ListN.{set}
use Rattle.ds_base.proofs.SmallFacts.{some_same}
use Rattle.ds_rule.specs.Shifts.{joined}
use Rattle.ds_ranges.proofs.Events.{join-left, join-right}
use Rattle.ds_ranges.proofs.Removing.{left-at, put-back, right-at}
use Rattle.ds_ranges.proofs.event.merge_at.Goals as goal

pub merge-requires-clause-fits : goal.merge-requires-clause-fits
merge-requires-clause-fits c =
    let xs = c.args.ranges.now.items in
    c.requires.fits c.index_mut-left.result.now (left-at xs c.remove-right.new.self.items c.args.at c.index_mut-left.result.now c.requires.within c.remove-right.ensures.items c.index_mut-left.ensures.value)

pub merge-requires-clause-next : goal.merge-requires-clause-next
merge-requires-clause-next c =
    let xs = c.args.ranges.now.items in
    c.requires.next c.index_mut-left.result.now c.remove-right.result (left-at xs c.remove-right.new.self.items c.args.at c.index_mut-left.result.now c.requires.within c.remove-right.ensures.items c.index_mut-left.ensures.value) (right-at xs c.args.at c.remove-right.result c.requires.within c.remove-right.ensures.value)

pub merge-requires-clause-generation : goal.merge-requires-clause-generation
merge-requires-clause-generation c =
    let xs = c.args.ranges.now.items in
    join-left c.index_mut-left.result.now c.remove-right.result (c.requires.can c.index_mut-left.result.now c.remove-right.result (left-at xs c.remove-right.new.self.items c.args.at c.index_mut-left.result.now c.requires.within c.remove-right.ensures.items c.index_mut-left.ensures.value) (right-at xs c.args.at c.remove-right.result c.requires.within c.remove-right.ensures.value))

pub merge-requires-clause-right_generation : goal.merge-requires-clause-right_generation
merge-requires-clause-right_generation c =
    let xs = c.args.ranges.now.items in
    join-right c.index_mut-left.result.now c.remove-right.result (c.requires.can c.index_mut-left.result.now c.remove-right.result (left-at xs c.remove-right.new.self.items c.args.at c.index_mut-left.result.now c.requires.within c.remove-right.ensures.items c.index_mut-left.ensures.value) (right-at xs c.args.at c.remove-right.result c.requires.within c.remove-right.ensures.value))

pub returns-in-Ok-clause-ok : goal.returns-in-Ok-clause-ok
returns-in-Ok-clause-ok c = λ r s at next.
    let xs = c.args.ranges.now.items in
    let i = c.args.at in
    let left : slice_get c.args.ranges.now.items c.args.at ≡ Some c.index_mut-left.result.now = left-at xs c.remove-right.new.self.items i c.index_mut-left.result.now c.requires.within c.remove-right.ensures.items c.index_mut-left.ensures.value in
    let right : slice_get c.args.ranges.now.items (suc c.args.at) ≡ Some c.remove-right.result = right-at xs i c.remove-right.result c.requires.within c.remove-right.ensures.value in
    let one : c.index_mut-left.result.now ≡ r = some_same c.index_mut-left.result.now r (sym left ∙ at) in
    let two : c.remove-right.result ≡ s = some_same c.remove-right.result s (sym right ∙ next) in
    let more : c.args.at + 1 ≡ suc c.args.at = omega arith in
    ap (λ zs. set zs i c.merge.new.self) (c.remove-right.ensures.items ∙ ap (remove xs) more)
    ∙ ap (λ z. set (remove xs (suc i)) i z) (c.in-Ok.ensures.ok ∙ ap (λ z. joined z c.remove-right.result) one ∙ ap (joined r) two)

pub returns-in-Err-clause-err : goal.returns-in-Err-clause-err
returns-in-Err-clause-err c =
    let xs = c.args.ranges.now.items in
    let i = c.args.at in
    let left : slice_get c.args.ranges.now.items c.args.at ≡ Some c.index_mut-left.result.now = left-at xs c.remove-right.new.self.items i c.index_mut-left.result.now c.requires.within c.remove-right.ensures.items c.index_mut-left.ensures.value in
    let right : slice_get c.args.ranges.now.items (suc c.args.at) ≡ Some c.remove-right.result = right-at xs i c.remove-right.result c.requires.within c.remove-right.ensures.value in
    put-back xs c.remove-right.new.self.items c.put_in.new.ranges.items i c.index_mut-left.result.now c.remove-right.result c.remove-right.ensures.items left right
    (c.put_in.ensures ∙ ap (λ z. insert (set c.remove-right.new.self.items i z) (i + 1) c.in-Err.right) c.in-Err.ensures.err ∙ ap (λ z. insert (set c.remove-right.new.self.items i c.index_mut-left.result.now) (i + 1) z) c.in-Err.ensures.back)
