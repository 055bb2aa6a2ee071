use Rattle.std.proofs.Common.{◌∙◌, arith}
use Rattle.std.proofs.Math.Seq.{take-add}
use Rattle.std.proofs.lemmas.List.{take_rest}
use Rattle.ds_io.proofs.Known.{Appends-then}
use Rattle.ds_io.proofs.whole.put_all.Goals as goal

pub pieces-preserved : goal.pieces-preserved
pieces-preserved g c =
    let bytes = c.args.bytes.now in
    let put = rw (take_rest bytes c.pieces.at) at c.in_ok-at.ensures.bytes in
    let both = Appends-then _ _ _ _ _ c.pieces.invariant.written put in
    record {
      within = omega (arith, c.in_ok-at.ensures.bound);
      written = rw (take-add c.pieces.at c.in_ok-at.field-0 bytes) both;
      counts = c.in_ok-at.ensures.counts ∙ c.pieces.invariant.counts;
    }
