use Rattle.ds_mean.proofs.Accepting.{pieces_accepted}
use Rattle.ds_mean.proofs.cover_laws.pieces_accepted.Goals as goal

pub returns : goal.returns
returns c = pieces_accepted
