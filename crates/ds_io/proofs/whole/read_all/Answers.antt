use Rattle.ds_io.proofs.Known.{Consumes-then, Consumes-lost}
use Rattle.ds_io.proofs.whole.read_all.Goals as goal

-- where there is no room for a piece, the source lacks that piece and those before it
pub returns-in_err-extend_from_slice-in_default-clause-lost :
    goal.returns-in_err-extend_from_slice-in_default-clause-lost
returns-in_err-extend_from_slice-in_default-clause-lost g c =
    let left = g.S.Source.left in
    let both = Consumes-then _ _ _ _ _ c.pieces.invariant.read c.in_ok-count.ensures.bytes.0 in
    Consumes-lost c.from_residual-in_err-extend_from_slice-in_default.result (left c.args.source.now) (left c.take.new.self) _ both
