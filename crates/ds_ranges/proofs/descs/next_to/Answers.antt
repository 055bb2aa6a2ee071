use Rattle.std.proofs.Common.{◌≡◌, ◌+◌, suc, length, refl, subst, Some, arith}
use Rattle.std.specs.List.{slice_get}
use Rattle.std.proofs.lemmas.Option.{slice_get_read}
use Rattle.ds_ranges.proofs.descs.next_to.Goals as goal

pub returns : goal.returns
returns c =
    let more : c.args.at + 1 ≡ suc c.args.at = omega arith in
    let ranges = c.args.ranges.now in
    subst (λ n. slice_get ranges n ≡ Some c.index-ranges-at.result) more (slice_get_read ranges (length ranges) (c.args.at + 1) c.index-ranges-at.result refl (omega arith) c.index-ranges-at.is)
