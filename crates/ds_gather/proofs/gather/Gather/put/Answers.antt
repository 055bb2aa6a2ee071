use Rattle.std.proofs.Common.{rules, ◌≡◌, ◌++◌, ◌∷◌, [], refl, sym, ap, ◌∙◌}
use Rattle.std.specs.Vec.Iter.{into_iter_items}
use Rattle.ds_gather.specs.Gathered.{arrival}
use Rattle.ds_gather.proofs.Coming.{drop_more}
use Rattle.ds_gather.proofs.Joining.{left_more}
use Rattle.ds_gather.proofs.Receiving.{from_ok, come_none, come_step, come_end, none_left}
use Rattle.ds_gather.proofs.gather.Gather.put.Goals as goal

pub replies-init : goal.replies-init
replies-init c =
    (refl, come_none c.args.self.now.got c.as_slice-items.result.now, refl, c.into_iter-reply-iterator.ensures.into_iter_gives.0 ∙ c.into_vec-reply-items.ensures)

pub returns-in_default-clause-ok : goal.returns-in_default-clause-ok
returns-in_default-clause-ok c =
    let none : c.replies.items.now ≡ [] = none_left c.replies.items.now c.in_default.ensures.cases in
    come_end c.replies.self c.args.self.now.wanted c.args.self.now.got c.as_slice-items.result.now c.args.piece.now.items c.replies.yielded (into_iter_items c.replies.reply-iterator) c.args.replies c.replies.invariant.0 c.replies.invariant.1 (sym c.replies.invariant.2 ∙ none) c.replies.invariant.3 c.as_slice-items.ensures

pub replies-preserved : goal.replies-preserved
replies-preserved c =
    let is = c.as_slice-items.result.now in
    let ys = c.replies.yielded in
    let r = c.in-Some.reply in
    let i = c.in-Some-split_first.item.now in
    let rest = c.in-Some-split_first.others.now in
    let split : c.replies.items.now ≡ c.in-Some-split_first.item.now ∷ c.in-Some-split_first.others.now = search rules in
    let left : into_iter_items c.replies.reply-iterator ≡ c.in-Some.reply ∷ into_iter_items c.next.new.self = search rules in
    let made : c.receive.new.self ≡ record { wanted = c.replies.self.wanted; got = c.replies.self.got ++ arrival c.in-Some-split_first.item.now c.in-Some.reply ∷ [] } = from_ok c.receive.result c.if-is_err.ensures.value c.receive.ensures.ok in
    let next = sym c.replies.invariant.2 ∙ split in (
      ap (λ g. g.wanted) made ∙ c.replies.invariant.0,
      ap (λ g. g.got) made ∙ come_step c.args.self.now.got c.replies.self.got is rest ys i r c.replies.invariant.1 next,
      sym (drop_more is ys i rest r next),
      left_more ys (into_iter_items c.next.new.self) c.args.replies (into_iter_items c.replies.reply-iterator) r left c.replies.invariant.3,
    )
