use Rattle.std.proofs.Common.{◌≡◌, length, ap, sym, ◌∙◌, arith}
use Rattle.ds_limit.proofs.RestFacts.{same_length}
use Rattle.ds_limit.proofs.fill.rests_of.Goals as goal

pub bounds-replies-i : goal.bounds-replies-i
bounds-replies-i c =
    let as_many : length c.as_slice-replies.result.now ≡ length c.as_slice-items.result.now =
    ap length c.as_slice-replies.ensures ∙ same_length c.args.part.now.items c.args.replies.now c.requires.inside ∙ sym (ap length c.as_slice-items.ensures) in
    omega arith
