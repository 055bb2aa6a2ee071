use Rattle.ds_mean.proofs.Parting.{parts_pieces}
use Rattle.ds_mean.proofs.cover_laws.parts_pieces.Goals as goal

pub returns : goal.returns
returns c = parts_pieces
